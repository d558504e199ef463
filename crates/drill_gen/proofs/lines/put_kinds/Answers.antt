use Rattle.std.proofs.Common.{◌∷◌, [], ◌++◌, ap, ◌∙◌}
use Rattle.drill_gen.specs.LineKinds.{kind_of_line}
use Rattle.drill_gen.specs.declared.lines.LineKind.{LineKind}
use Rattle.drill_gen.proofs.KindsLaw.{one_more, no_more}
use Rattle.drill_gen.proofs.lines.put_kinds.Goals as goal

pub loop-line-preserved : goal.loop-line-preserved
loop-line-preserved c =
    one_more kind_of_line _ _ _ _ _ _ c.in-Some.ensures.steps
    (c.in_ok-push.ensures.ok ∙ ap (λ (kind : LineKind). c.loop-line.kinds ++ kind ∷ []) c.kind_of_line.ensures) c.loop-line.invariant

pub returns : goal.returns
returns c = no_more kind_of_line _ _ _ c.in-None.ensures.steps.0 c.loop-line.invariant
