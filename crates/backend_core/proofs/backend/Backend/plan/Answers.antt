use Rattle.std.proofs.Common.{sym, ◌∙◌}
use Rattle.backend_core.proofs.PlanNext.{next_found}
use Rattle.backend_core.proofs.backend.Backend.plan.Goals as goal

pub returns-in-Some-clause-next : goal.returns-in-Some-clause-next
returns-in-Some-clause-next c = next_found c.args.self.now c.args.ask c.in-Some.field-0 (sym c.in_ok-entries.ensures ∙ c.in-Some.is)
