use Rattle.std.proofs.Common.{◌≡◌, ◌++◌, drop, map}
use Rattle.mail_message.specs.Boxes.{messages_at, summary_of}
use Rattle.mail_message.proofs.mail_box.MailBox.summaries.Given as goal

abbrev pub invariant-loop-uid : goal.invariant-loop-uid
invariant-loop-uid l =
    l.summaries ++ map summary_of (messages_at l.self.messages (drop l.uid-index l.uids)) ≡ map summary_of (messages_at l.self.messages l.uids)
