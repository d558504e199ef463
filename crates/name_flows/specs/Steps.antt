-- What a step does.
use Rattle.std.specs.Prelude.{ℕ, List, [], ◌∷◌, ◌++◌, map, Option, None, Some}
use Rattle.link_msg.specs.declared.answer.AnswerBody.{AnswerBody}
use Rattle.node_record.specs.declared.backend.BackendRecord.{BackendRecord}
use Rattle.node_record.specs.Held.{Names, held_after}
use Rattle.name_flows.specs.declared.ask.Told.{Told}
use Rattle.name_flows.specs.declared.flows.Flows.{Flows}
use Rattle.name_flows.specs.declared.gives.Gives.{Gives}
use Rattle.name_flows.specs.declared.gives.Step.{Step}
use Rattle.name_flows.specs.declared.sent.SentLine.{SentLine}
use Rattle.name_flows.specs.Lines.{line_text}
use Rattle.name_flows.specs.Running.{flow_at, ended, answers_for}

-- the state after a step, the one change of the mailboxes, if there is one, the lines for the master, and the answers for frontends
pub record FlowStep : Type 0 where
  pub flows : Flows
  pub entry : Option BackendRecord
  pub sends : List SentLine
  pub answers : List Told

abbrev pub given : Flows → Gives → FlowStep
given flows it = record { flows = flows; entry = it.entry; sends = it.sends; answers = it.answers }

-- nothing is given
abbrev pub silent : Flows → FlowStep
silent flows = record { flows = flows; entry = None; sends = []; answers = [] }

abbrev pub answering : Flows → List Told → FlowStep
answering flows all = record { flows = flows; entry = None; sends = []; answers = all }

abbrev pub answering_one : Flows → Told → FlowStep
answering_one flows it = answering flows (it ∷ [])

abbrev pub changing : Flows → BackendRecord → List Told → FlowStep
changing flows entry all = record { flows = flows; entry = Some entry; sends = []; answers = all }

abbrev pub sending : Flows → SentLine → FlowStep
sending flows line = record { flows = flows; entry = None; sends = line ∷ []; answers = [] }

-- the flow on the name ends with an answer
abbrev pub finished : Flows → List ℕ → AnswerBody → FlowStep
finished flows name body = answering (ended flows name) (answers_for body (flow_at flows name))

-- the mailboxes after an entry, if there is one
abbrev pub held_with : Names → Option BackendRecord → Names
held_with held None = held
held_with held (Some entry) = held_after held entry

-- a step that was handed out: the lines stand among those sent
pub record Handed : Type 0 where
  pub flows : Flows
  pub step : Step

abbrev pub handed : Names → FlowStep → Handed
handed held it = record {
  flows = record it.flows { sent = it.flows.sent ++ it.sends };
  step = record { entry = it.entry; lines = map (line_text it.flows.me held) it.sends; answers = it.answers };
}
