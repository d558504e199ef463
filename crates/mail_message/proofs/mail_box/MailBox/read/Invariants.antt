use Rattle.std.proofs.Common.{◌≡◌, ◌++◌, drop}
use Rattle.mail_message.specs.Boxes.{messages_at}
use Rattle.mail_message.proofs.mail_box.MailBox.read.Given as goal

abbrev pub invariant-loop-uid : goal.invariant-loop-uid
invariant-loop-uid l = l.messages ++ messages_at l.self.messages (drop l.uid-index l.uids) ≡ messages_at l.self.messages l.uids
