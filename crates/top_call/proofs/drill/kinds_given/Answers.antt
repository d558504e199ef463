use Rattle.top_call.specs.Drill.{client_kinds}
use Rattle.top_call.proofs.KindsGiven.{one_more, no_more}
use Rattle.top_call.proofs.drill.kinds_given.Goals as goal

pub loop-client-preserved : goal.loop-client-preserved
loop-client-preserved c = one_more client_kinds _ _ _ _ _ _ c.in-Some.ensures.steps (rw c.as_slice.ensures at c.in_ok-put_kinds.ensures) c.loop-client.invariant

pub returns : goal.returns
returns c = no_more client_kinds _ _ _ c.in-None.ensures.steps.0 c.loop-client.invariant
