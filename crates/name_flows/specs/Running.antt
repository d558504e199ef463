-- The flows under way, by name, and how a flow goes on and ends.
use Rattle.std.specs.Prelude.{ℕ, Bool, true, false, is_some, List, [], ◌∷◌, Option, None, Some}
use Rattle.std.specs.Ordering.{nat_cmp}
use Rattle.std.specs.Cmp.Lexicographic.{slice_cmp}
use Rattle.mur_base.specs.Map.{value_at, with_value, without_key}
use Rattle.mur_base.specs.declared.home.Location.{Location}
use Rattle.mur_base.specs.declared.point.AskId.{AskId}
use Rattle.link_msg.specs.declared.answer.AnswerBody.{AnswerBody}
use Rattle.link_msg.specs.declared.answer.AnswerBody.TheVariants.{Done}
use Rattle.link_msg.specs.declared.outcome.Outcome.{Outcome}
use Rattle.node_record.specs.declared.backend.BackendRecord.{BackendRecord}
use Rattle.node_record.specs.declared.backend.BackendRecord.TheVariants.{Forget}
use Rattle.name_flows.specs.declared.ask.Told.{Told}
use Rattle.name_flows.specs.declared.flow.Flow.{Flow}
use Rattle.name_flows.specs.declared.flow.Stage.{Stage}
use Rattle.name_flows.specs.declared.flow.Stage.TheVariants.{Reserving, Making, Deactivating, Deleting}
use Rattle.name_flows.specs.declared.flows.Flows.{Flows}

abbrev pub is_same_stage : Stage → Stage → Bool
is_same_stage Reserving Reserving = true
is_same_stage Making Making = true
is_same_stage Deactivating Deactivating = true
is_same_stage Deleting Deleting = true
is_same_stage one other = false

-- nothing is under way, and the link with the master is down
abbrev pub new_flows : Location → List ℕ → Flows
new_flows me master = record { me = me; master = master; up = false; running = []; sent = []; found = false; resync = None }

abbrev pub flow_at : Flows → List ℕ → Option Flow
flow_at flows name = value_at (slice_cmp nat_cmp) flows.running name

-- a flow runs on the name
abbrev pub has_flow : Flows → List ℕ → Bool
has_flow flows name = is_some (flow_at flows name)

abbrev pub has_stage : Stage → Option Flow → Bool
has_stage stage None = false
has_stage stage (Some flow) = is_same_stage flow.stage stage

-- a flow runs on the name, and waits for this answer
abbrev pub is_at : Flows → List ℕ → Stage → Bool
is_at flows name stage = has_stage stage (flow_at flows name)

abbrev pub staged : List (List ℕ × Flow) → List ℕ → Stage → Option Flow → List (List ℕ × Flow)
staged running name stage None = running
staged running name stage (Some flow) = with_value (slice_cmp nat_cmp) running name (record flow { stage = stage })

-- the flow on the name waits for this answer from here on
abbrev pub goes_on : Flows → List ℕ → Stage → Flows
goes_on flows name stage = record flows { running = staged flows.running name stage (flow_at flows name) }

-- the flow on the name has ended
abbrev pub ended : Flows → List ℕ → Flows
ended flows name = record flows { running = without_key (slice_cmp nat_cmp) flows.running name }

-- an answer to a frontend's command
abbrev pub answer_to : List ℕ → AskId → AnswerBody → Told
answer_to front id body = record { front = front; answer = record { id = id; body = body } }

-- the answer to the frontend whose command the flow was, if there was one
abbrev pub answers_for : AnswerBody → Option Flow → List Told
answers_for body None = []
answers_for body (Some flow) = answer_to flow.front flow.ask body ∷ []

-- the answer to a command that was carried out, or refused for good, tells nothing of the mailbox
abbrev pub done : Outcome → AnswerBody
done outcome = Done outcome (record { serial = 0; next = 0; size = 0; rows = [] })

-- the entry by which a mailbox is here no more
abbrev pub forget : List ℕ → BackendRecord
forget name = Forget (name ∷ [])
