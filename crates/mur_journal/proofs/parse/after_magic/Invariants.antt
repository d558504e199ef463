use Rattle.std.proofs.Common.{◌-◌}
use Rattle.mur_journal.proofs.Reading.{IsHeaded}
use Rattle.mur_journal.proofs.parse.after_magic.Given as goal

abbrev pub invariant-loop-at : goal.invariant-loop-at
invariant-loop-at l = IsHeaded l.image l.at

abbrev pub decreases-loop-at : goal.decreases-loop-at
decreases-loop-at l = 8 - l.at
