use Rattle.std.proofs.Common.{length}
use Rattle.mur_journal.proofs.Reading.{Reading}
use Rattle.mur_journal.proofs.parse.read_image.Given as goal

abbrev pub invariant-loop-gate : goal.invariant-loop-gate
invariant-loop-gate l = Reading l.fn.image l.entries l.at l.rest

abbrev pub decreases-loop-gate : goal.decreases-loop-gate
decreases-loop-gate l = length l.rest
