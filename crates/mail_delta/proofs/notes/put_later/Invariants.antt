use Rattle.std.proofs.Common.{◌≡◌}
use Rattle.mail_delta.specs.Notes.{with_later}
use Rattle.mail_delta.proofs.notes.put_later.Given as goal

abbrev pub invariant-loop-uid : goal.invariant-loop-uid
invariant-loop-uid l = with_later l.notes l.uid-iterator ≡ with_later l.initial.notes l.later
