-- A frontend asks for a mailbox to be made or deleted. The tests of an ask are made in their order: the first that holds tells what is
-- answered.
use Rattle.std.specs.Prelude.{ℕ, Bool, true, false, ◌||◌, not, if◌then◌else◌, List, [], ◌∷◌, ◌++◌, Option, None, Some}
use Rattle.std.specs.Ordering.{nat_cmp}
use Rattle.std.specs.Cmp.Lexicographic.{slice_cmp}
use Rattle.mur_base.specs.Map.{with_entry}
use Rattle.link_msg.specs.declared.answer.AnswerBody.{AnswerBody}
use Rattle.link_msg.specs.declared.answer.AnswerBody.TheVariants.{NotNow, Moved, Unreached}
use Rattle.node_record.specs.Held.{Names, held_at}
use Rattle.name_flows.specs.declared.ask.AskKind.{AskKind}
use Rattle.name_flows.specs.declared.ask.AskKind.TheVariants.{Create, Delete}
use Rattle.name_flows.specs.declared.ask.NameAsk.{NameAsk}
use Rattle.name_flows.specs.declared.flow.Flow.{Flow}
use Rattle.name_flows.specs.declared.flow.Stage.{Stage}
use Rattle.name_flows.specs.declared.flow.Stage.TheVariants.{Reserving, Deactivating}
use Rattle.name_flows.specs.declared.flows.Flows.{Flows}
use Rattle.name_flows.specs.declared.resync.Resync.{Resync}
use Rattle.name_flows.specs.declared.sent.Sent.{Sent}
use Rattle.name_flows.specs.declared.sent.Sent.TheVariants.{Reserve, Deactivate}
use Rattle.name_flows.specs.declared.sent.SentLine.{SentLine}
use Rattle.name_flows.specs.Lines.{asked_line}
use Rattle.name_flows.specs.Phases.{is_open, is_closing, pointer_in}
use Rattle.name_flows.specs.Running.{has_flow, answer_to}
use Rattle.name_flows.specs.Steps.{FlowStep, silent, answering_one, sending}

abbrev pub first_of : List (Bool × AnswerBody) → Option AnswerBody
first_of [] = None
first_of (test ∷ tests) = if test.0 then Some test.1 else first_of tests

-- What becomes of a mailbox that is closed here isn't known yet: its name isn't made again.
unfoldable pub create_refusal : Flows → Names → List ℕ → Option AnswerBody
create_refusal flows held name = first_of (
    (has_flow flows name, NotNow)
    ∷ (not flows.up, Unreached flows.master)
    ∷ (is_closing (held_at held name), NotNow)
    ∷ [])

unfoldable pub delete_refusal_in : Flows → Names → List ℕ → Option (List ℕ) → Option AnswerBody
delete_refusal_in flows held name (Some server) = Some (Moved server)
delete_refusal_in flows held name None = first_of (
    (not (is_open (held_at held name)) || has_flow flows name, NotNow)
    ∷ (not flows.up, Unreached flows.master)
    ∷ [])

unfoldable pub delete_refusal : Flows → Names → List ℕ → Option AnswerBody
delete_refusal flows held name = delete_refusal_in flows held name (pointer_in (held_at held name))

abbrev pub refusal : Flows → Names → List ℕ → AskKind → Option AnswerBody
refusal flows held name Create = create_refusal flows held name
refusal flows held name Delete = delete_refusal flows held name

-- CREATE begins with RESERVE (RFC 3656, 4.9), and DELETE with DEACTIVATE (RFC 3656, 4.3)

abbrev pub first_stage : AskKind → Stage
first_stage Create = Reserving
first_stage Delete = Deactivating

abbrev pub first_line : AskKind → List ℕ → Sent
first_line Create name = Reserve name
first_line Delete name = Deactivate name

abbrev pub flow_for : NameAsk → Flow
flow_for ask = record { front = ask.front; ask = ask.id; stage = first_stage ask.kind }

-- a flow begins
abbrev pub begun_flow : Flows → NameAsk → Flows
begun_flow flows ask = record flows { running = with_entry (slice_cmp nat_cmp) flows.running ask.name (flow_for ask) }

abbrev pub begun_line : NameAsk → SentLine
begun_line ask = asked_line ask.id (first_line ask.kind ask.name)

abbrev pub tested_by : Flows → NameAsk → Option AnswerBody → FlowStep
tested_by flows ask (Some body) = answering_one flows (answer_to ask.front ask.id body)
tested_by flows ask None = sending (begun_flow flows ask) (begun_line ask)

-- an ask is answered, or its flow begins
abbrev pub tested : Flows → Names → NameAsk → FlowStep
tested flows held ask = tested_by flows ask (refusal flows held ask.name ask.kind)

-- it waits behind those that wait
abbrev pub waits : Flows → NameAsk → Resync → FlowStep
waits flows ask it = silent (record flows { resync = Some (record it { waiting = it.waiting ++ ask ∷ [] }) })

unfoldable pub asked_by : Flows → Names → NameAsk → Option Resync → FlowStep
asked_by flows held ask None = tested flows held ask
asked_by flows held ask (Some it) = waits flows ask it

-- an ask that comes during a resync waits for its end
unfoldable pub asked_step : Flows → Names → NameAsk → FlowStep
asked_step flows held ask = asked_by flows held ask flows.resync
