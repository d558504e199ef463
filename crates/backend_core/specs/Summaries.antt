-- Messages without their bodies, as their home tells_at_once them (RFC 9051, 2.3).
use Rattle.std.specs.Prelude.{ℕ, List, map, Option, None, Some}
use Rattle.mail_message.specs.Boxes.{Content, messages_at, snapshot_of, summary_of}
use Rattle.link_msg.specs.declared.outcome.Outcome.{Outcome}
use Rattle.link_msg.specs.declared.outcome.Outcome.TheVariants.{Summaries}
use Rattle.backend_core.specs.declared.backend.Backend.{Backend}
use Rattle.backend_core.specs.declared.op_plan.OpPlan.{OpPlan}
use Rattle.node_record.specs.declared.held.Held.{Held}
use Rattle.backend_core.specs.declared.response.Response.{Response}
use Rattle.backend_core.specs.HomeStep.{HomeStep, answers}
use Rattle.backend_core.specs.OpPlan.{looks, plans}
use Rattle.backend_core.specs.Refusal.{refusal}
use Rattle.backend_core.specs.Response.{done, not_now}

abbrev pub summaries_in : Content → List ℕ → Outcome
summaries_in content uids = Summaries (map summary_of (messages_at content.messages uids))

unfoldable pub summaries_unless : Content → List ℕ → Option Response → Response
summaries_unless content uids (Some response) = response
summaries_unless content uids None = done (summaries_in content uids) (snapshot_of content)

-- by what the home has of the name
unfoldable pub summaries_at : Option ℕ → List ℕ → Option Held → Response
summaries_at selected uids None = not_now
summaries_at selected uids (Some held) = summaries_unless held.content uids (refusal selected held)

unfoldable pub summaries_step : Backend → Option ℕ → List ℕ → Option Held → HomeStep
summaries_step home selected uids found = answers home (summaries_at selected uids found)

unfoldable pub summaries_plan : List ℕ → Option ℕ → List ℕ → Option Held → OpPlan
summaries_plan name selected uids found = plans selected (λ content. looks name (summaries_in content uids)) found
