use Rattle.std.proofs.Common.{arith}
use Rattle.mur_journal.proofs.Reading.{next_there, next_differs, next_missing}
use Rattle.mur_journal.proofs.parse.after_magic.Goals.{then-at-image-via-then-at-image, then-at-image-via-else-at-image+then-image-at}
use Rattle.mur_journal.proofs.parse.after_magic.Goals as goal

pub returns-then-at-image-clause-not_there : goal.returns-then-at-image-clause-not_there
returns-then-at-image-clause-not_there c = elim c.then-at-image.branch [
  | then-at-image-via-then-at-image w ↦ next_missing c.args.image.now c.loop-at.at c.loop-at.invariant c.loop-at-test.true (omega (arith, w.if-at-image.true))
  | then-at-image-via-else-at-image+then-image-at w ↦ next_differs c.args.image.now c.loop-at.at c.loop-at.invariant c.loop-at-test.true
      (omega (arith, w.if-at-image.false, c.loop-at.invariant.1)) w.if-image-at.true
]

pub loop-at-preserved : goal.loop-at-preserved
loop-at-preserved c = next_there c.args.image.now c.loop-at.at c.loop-at.invariant c.loop-at-test.true
    (omega (arith, c.if-at-image.false, c.loop-at.invariant.1)) c.if-image-at.false
