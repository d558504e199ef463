use Rattle.std.proofs.Common.{◌≡◌, ◌++◌}
use Rattle.std.specs.List.{filter}
use Rattle.mail_message.specs.Boxes.{uids_of, is_deleted}
use Rattle.mail_message.specs.Slots.{filled}
use Rattle.mail_message.proofs.slots.Slots.deleted.Given as goal

abbrev pub invariant-loop-uid : goal.invariant-loop-uid
invariant-loop-uid l = l.uids ++ uids_of (filter is_deleted (filled l._uid-iterator)) ≡ uids_of (filter is_deleted (filled l.self))
