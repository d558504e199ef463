-- When a home answers that an operation on messages was done, and when its step is its command's point though no client is told.
use Rattle.std.specs.Prelude.{◌≡◌, ⊤, true, Option, None, Some}
use Rattle.backend_core.specs.HomeLaws.{is_open_here}
use Rattle.backend_core.specs.HomeStep.{HomeStep}
use Rattle.link_msg.specs.declared.answer.AnswerBody.{AnswerBody}
use Rattle.link_msg.specs.declared.answer.AnswerBody.TheVariants.{Done}
use Rattle.link_msg.specs.declared.counts.Counts.TheVariants.{Always}
use Rattle.node_record.specs.declared.held.Held.{Held}

unfoldable pub IsDone : Option AnswerBody → Type 0
IsDone None = ⊥
IsDone (Some (Done outcome seen)) = ⊤
IsDone (Some body) = ⊥

-- done is answered only where the name was open before the step; and a step counts whatever its client is told exactly where it answers so
pub record IsDoneWhereOpen (found : Option Held) (step : HomeStep) : Type 0 where
  pub only_open : IsDone step.body → is_open_here found ≡ true
  pub counted : IsDone step.body → step.counts ≡ Always
  pub only_done : step.counts ≡ Always → IsDone step.body
