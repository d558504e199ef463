use Rattle.backend_core.proofs.PlanLaw.{plan_leaves, plan_tells}
use Rattle.backend_core.proofs.laws.a_step_is_its_operation.Goals as goal

pub returns-clause-leaves : goal.returns-clause-leaves
returns-clause-leaves c = plan_leaves

pub returns-clause-tells : goal.returns-clause-tells
returns-clause-tells c = plan_tells
