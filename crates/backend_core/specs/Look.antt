-- What a mailbox looks like, as its home tells_at_once it.
use Rattle.std.specs.Prelude.{ℕ, List, Option, None, Some}
use Rattle.mail_message.specs.Boxes.{Content, snapshot_of}
use Rattle.link_msg.specs.declared.outcome.Outcome.TheVariants.{None as nothing}
use Rattle.backend_core.specs.declared.backend.Backend.{Backend}
use Rattle.backend_core.specs.declared.op_plan.OpPlan.{OpPlan}
use Rattle.node_record.specs.declared.held.Held.{Held}
use Rattle.backend_core.specs.declared.response.Response.{Response}
use Rattle.backend_core.specs.HomeStep.{HomeStep, answers}
use Rattle.backend_core.specs.OpPlan.{looks, plans}
use Rattle.backend_core.specs.Refusal.{refusal}
use Rattle.backend_core.specs.Response.{done, not_now}

unfoldable pub look_unless : Content → Option Response → Response
look_unless content (Some response) = response
look_unless content None = done nothing (snapshot_of content)

-- by what the home has of the name
unfoldable pub look_at : Option ℕ → Option Held → Response
look_at selected None = not_now
look_at selected (Some held) = look_unless held.content (refusal selected held)

unfoldable pub look_step : Backend → Option ℕ → Option Held → HomeStep
look_step home selected found = answers home (look_at selected found)

unfoldable pub look_plan : List ℕ → Option ℕ → Option Held → OpPlan
look_plan name selected found = plans selected (λ content. looks name nothing) found
