-- A backend's step: what it writes, what its entries make of it, and what goes out.
use Rattle.std.specs.Prelude.{List, ℕ, [], ◌∷◌, Option, None, Some}
use Rattle.mur_base.specs.declared.home.Location.{Location}
use Rattle.mur_base.specs.declared.point.AskId.{AskId}
use Rattle.link_msg.specs.declared.answer.AnswerBody.{AnswerBody}
use Rattle.link_msg.specs.declared.ask.FrontAsk.{FrontAsk}
use Rattle.link_msg.specs.declared.counts.Counts.{Counts}
use Rattle.link_msg.specs.declared.message.LinkMsg.TheVariants.{Answer}
use Rattle.link_msg.specs.declared.out.Out.{Out}
use Rattle.link_msg.specs.declared.out.Out.TheVariants.{Link, Mark}
use Rattle.node_record.specs.declared.backend.BackendRecord.{BackendRecord}
use Rattle.backend_core.specs.declared.backend.Backend.{Backend}
use Rattle.backend_core.specs.declared.op_plan.OpPlan.{OpPlan}
use Rattle.backend_core.specs.declared.plan.BackPlan.{BackPlan}
use Rattle.backend_core.specs.declared.plan.Owed.{Owed}
use Rattle.backend_core.specs.declared.response.Response.{Response}
use Rattle.backend_core.specs.AskPlan.{ask_plan}
use Rattle.backend_core.specs.OpPlan.{home_after, told_after}

-- the entries of a step, the home after them, and what goes out
pub record Planned : Type 0 where
  pub entries : List BackendRecord
  pub home : Backend
  pub outs : List Out

-- a backend without mailboxes
abbrev pub booted : Location → Backend
booted me = record { me = me; held = [] }

-- an answer goes to the frontend that asked, and the step counts for its command
unfoldable pub answer_outs : List ℕ → AskId → Counts → Option AnswerBody → List Out
answer_outs from id counts None = []
answer_outs from id counts (Some body) = Link from (Answer (record { id = id; body = body })) ∷ Mark id counts ∷ []

abbrev pub response_outs : List ℕ → AskId → Response → List Out
response_outs from id response = answer_outs from id response.counts (Some response.body)

-- by the home after the entries
abbrev pub owed_outs : Backend → Option Owed → List Out
owed_outs home None = []
owed_outs home (Some owed) = response_outs owed.to owed.id (told_after home owed.telling)

-- the state after a step is what its entries make
abbrev pub settles : Backend → BackPlan → Planned
settles home plan = record {
  entries = plan.entries;
  home = home_after home plan.entries;
  outs = owed_outs (home_after home plan.entries) plan.owed;
}

abbrev pub owes : List ℕ → AskId → Option OpPlan → BackPlan
owes from id None = record { entries = []; owed = None }
owes from id (Some plan) = record { entries = plan.entries; owed = Some (record { to = from; id = id; telling = plan.telling }) }

-- by this frontend's ask
abbrev pub back_plan : Backend → List ℕ → FrontAsk → BackPlan
back_plan home from ask = owes from ask.id (ask_plan home ask)

unfoldable pub plan_of : Backend → List ℕ → FrontAsk → Planned
plan_of home from ask = settles home (back_plan home from ask)
