use Rattle.std.proofs.Common.{◌≡◌, drop}
use Rattle.std.specs.List.{fold}
use Rattle.mail_message.specs.Boxes.{without_uid}
use Rattle.mail_message.specs.Slots.{filled}
use Rattle.mail_message.proofs.slots.remove_all.Given as goal

abbrev pub invariant-loop-uid : goal.invariant-loop-uid
invariant-loop-uid l = fold without_uid (filled l.slots) (drop l.uid-index l.uids) ≡ fold without_uid (filled l.initial.slots) l.uids
