use Rattle.std.proofs.Common.{sym, ◌∙◌}
use Rattle.cluster_core.proofs.Runs.CarryOn.{carried_on, carried_end, shorter}
use Rattle.cluster_core.proofs.carry.carry_out.Goals as goal

pub loop-out-preserved : goal.loop-out-preserved
loop-out-preserved c = record {
  can_next = tt;
  is_finite = tt;
  count = shorter _ _ _ _ _ c.loop-out.invariant.count c.in-Some.ensures.steps.0 c.in-Some.ensures.steps.1;
  carried = carried_on _ _ _ _ _ _ c.in-Some.ensures.steps.0 c.in_ok-carry_or_lose.ensures ∙ c.loop-out.invariant.carried;
}

pub returns : goal.returns
returns c = carried_end _ _ _ (sym c.loop-out.invariant.count ∙ c.in-None.ensures.steps.0) ∙ c.loop-out.invariant.carried
