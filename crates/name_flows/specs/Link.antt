-- The link with the master comes up, and ends.
use Rattle.std.specs.Prelude.{ℕ, List, [], ◌∷◌, ◌++◌, map, Option, None, Some}
use Rattle.link_msg.specs.declared.answer.AnswerBody.{AnswerBody}
use Rattle.link_msg.specs.declared.answer.AnswerBody.TheVariants.{Lost, Unreached}
use Rattle.name_flows.specs.declared.ask.NameAsk.{NameAsk}
use Rattle.name_flows.specs.declared.ask.Told.{Told}
use Rattle.name_flows.specs.declared.flow.Flow.{Flow}
use Rattle.name_flows.specs.declared.flow.Stage.{Stage}
use Rattle.name_flows.specs.declared.flow.Stage.TheVariants.{Reserving, Making, Deactivating, Deleting}
use Rattle.name_flows.specs.declared.flows.Flows.{Flows}
use Rattle.name_flows.specs.declared.resync.Resync.{Resync}
use Rattle.name_flows.specs.Running.{new_flows, answer_to}
use Rattle.name_flows.specs.Steps.{FlowStep, answering}

-- Where ACTIVATE or DELETE was sent already, the master may have carried it out, and nobody can know.
abbrev pub broken_body : List ℕ → Stage → AnswerBody
broken_body master Reserving = Unreached master
broken_body master Making = Lost
broken_body master Deactivating = Unreached master
broken_body master Deleting = Lost

-- the answer to the frontend of a flow that ends with the link
abbrev pub broken_answer : List ℕ → Flow → Told
broken_answer master flow = answer_to flow.front flow.ask (broken_body master flow.stage)

abbrev pub broken_answer_in : List ℕ → List ℕ × Flow → Told
broken_answer_in master entry = broken_answer master entry.1

-- the answer to an ask that waited when the link ended
abbrev pub unreached_answer : List ℕ → NameAsk → Told
unreached_answer master ask = answer_to ask.front ask.id (Unreached master)

-- what was asked during a resync, if one runs
abbrev pub waiting_in : Option Resync → List NameAsk
waiting_in None = []
waiting_in (Some it) = it.waiting

-- the link ends: so do the flows and the resync, and no line is answered any more
abbrev pub end_step : Flows → FlowStep
end_step flows = answering (new_flows flows.me flows.master)
    (map (broken_answer_in flows.master) flows.running ++ map (unreached_answer flows.master) (waiting_in flows.resync))
