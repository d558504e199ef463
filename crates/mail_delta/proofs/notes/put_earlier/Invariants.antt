use Rattle.std.proofs.Common.{◌≡◌}
use Rattle.mail_delta.specs.Notes.{with_earlier}
use Rattle.mail_delta.proofs.notes.put_earlier.Given as goal

abbrev pub invariant-loop-uid : goal.invariant-loop-uid
invariant-loop-uid l = with_earlier l.notes l.uid-iterator ≡ with_earlier l.initial.notes l.earlier
