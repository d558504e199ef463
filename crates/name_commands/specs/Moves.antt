-- What becomes of a CREATE or DELETE in a step of its backend.
use Rattle.std.specs.Prelude.{◌≡◌, ℕ, List, [], ◌∷◌, ◌++◌, filter, Option, None, Some}
use Rattle.link_msg.specs.declared.answer.AnswerBody.{AnswerBody}
use Rattle.link_msg.specs.declared.answer.AnswerBody.TheVariants.{NotNow}
use Rattle.link_msg.specs.declared.message.LinkMsg.{LinkMsg}
use Rattle.link_msg.specs.declared.message.LinkMsg.TheVariants.{Answer}
use Rattle.link_msg.specs.declared.out.Out.{Out}
use Rattle.link_msg.specs.declared.out.Out.TheVariants.{Link}
use Rattle.link_msg.specs.declared.outcome.Outcome.TheVariants.{None as nothing, Limit}
use Rattle.mupdate_codec.specs.declared.command.MResponse.{MResponse}
use Rattle.mupdate_codec.specs.declared.command.MResponse.TheVariants as response
use Rattle.mur_base.specs.declared.home.Location.{Location}
use Rattle.mur_base.specs.declared.point.AskId.{AskId}
use Rattle.node_record.specs.Held.{Names}
use Rattle.name_flows.specs.declared.ask.NameAsk.{NameAsk}
use Rattle.name_flows.specs.declared.ask.Told.{Told}
use Rattle.name_flows.specs.declared.flow.Flow.{Flow}
use Rattle.name_flows.specs.declared.flow.Stage.{Stage}
use Rattle.name_flows.specs.declared.flow.Stage.TheVariants.{Reserving, Making, Deactivating, Deleting}
use Rattle.name_flows.specs.declared.flows.Flows.{Flows}
use Rattle.name_flows.specs.declared.resync.Resync.{Resync}
use Rattle.name_flows.specs.declared.sent.SentLine.{SentLine}
use Rattle.name_flows.specs.Asked.{flow_for, refusal}
use Rattle.name_flows.specs.Creates.{reserve_refused, serial_in}
use Rattle.name_flows.specs.Running.{answer_to, done}
use Rattle.back_node.specs.declared.node.BackNode.{BackNode}
use Rattle.back_node.specs.Acted.{BackActed}
use Rattle.feed_links.specs.Lines.{messages_to}
use Rattle.name_commands.specs.Places.{NamePlace, nowhere, waits, sends, TalkShows, flow_line, flow_message}
use Rattle.name_commands.specs.Whose.{Whose, is_own_out}

-- it is answered, waits for the end of a resync, or the line of its flow is sent
pub data Move : Type 0 where
  is_answered : List ℕ → AskId → AnswerBody → Move
  is_kept : NameAsk → Move
  is_sent : List ℕ → Flow → Move

abbrev pub place_after : Move → NamePlace
place_after (is_answered front id body) = nowhere
place_after (is_kept ask) = waits ask
place_after (is_sent name flow) = sends name flow

abbrev pub lines_of : Move → List SentLine
lines_of (is_answered front id body) = []
lines_of (is_kept ask) = []
lines_of (is_sent name flow) = flow_line name flow ∷ []

abbrev pub answers_of : Move → List Told
answers_of (is_answered front id body) = answer_to front id body ∷ []
answers_of (is_kept ask) = []
answers_of (is_sent name flow) = []

-- what goes out about it
abbrev pub outs_of : List ℕ → Location → Move → List Out
outs_of master me (is_answered front id body) = Link front (Answer (record { id = id; body = body })) ∷ []
outs_of master me (is_kept ask) = []
outs_of master me (is_sent name flow) = Link master (flow_message me name flow) ∷ []

-- ---- which

-- An ask that is tested is answered where it is refused, and else its flow begins.
abbrev pub tested_move : NameAsk → Option AnswerBody → Move
tested_move ask (Some body) = is_answered ask.front ask.id body
tested_move ask None = is_sent ask.name (flow_for ask)

abbrev pub asked_move_by : Flows → Names → NameAsk → Option Resync → Move
asked_move_by flows held ask None = tested_move ask (refusal flows held ask.name ask.kind)
asked_move_by flows held ask (Some it) = is_kept ask

-- an ask comes
abbrev pub asked_move : Flows → Names → NameAsk → Move
asked_move flows held ask = asked_move_by flows held ask flows.resync

abbrev pub ends : Flow → AnswerBody → Move
ends flow body = is_answered flow.front flow.ask body

-- RESERVE's OK tells the UIDVALIDITY
abbrev pub reserved_move : List ℕ → Flow → Option ℕ → Move
reserved_move name flow None = ends flow NotNow
reserved_move name flow (Some serial) = is_sent name (record flow { stage = Making })

abbrev pub heard_move_by : List ℕ → Flow → Stage → MResponse → Option Move
heard_move_by name flow Reserving (response.Ok text) = Some (reserved_move name flow (serial_in text))
heard_move_by name flow Reserving (response.No text) = Some (ends flow (reserve_refused text))
heard_move_by name flow Reserving (response.Bad text) = Some (ends flow (reserve_refused text))
heard_move_by name flow Making (response.Ok text) = Some (ends flow (done nothing))
heard_move_by name flow Making (response.No text) = Some (ends flow (done Limit))
heard_move_by name flow Making (response.Bad text) = Some (ends flow (done Limit))
heard_move_by name flow Deactivating (response.Ok text) = Some (is_sent name (record flow { stage = Deleting }))
heard_move_by name flow Deleting (response.Ok text) = Some (ends flow (done nothing))
heard_move_by name flow stage it = None

-- The response to its line comes. DEACTIVATE and DELETE aren't refused.
abbrev pub heard_move : List ℕ → Flow → MResponse → Option Move
heard_move name flow it = heard_move_by name flow flow.stage it

-- ---- a step that does so

-- a step of the backend; what it sends the master comes behind what is on its way
pub record MovesCommand (whose : Whose) (master : List ℕ) (node : BackNode) (next : BackActed) (up down : List LinkMsg) (move : Move) : Type 0 where
  pub placed : TalkShows whose next.state (up ++ messages_to master next.outs) down (place_after move)
  pub outs : filter (is_own_out whose) next.outs ≡ outs_of master node.flows.me move

-- a step for something else: wherever it is, it stays there, and nothing goes out about it
pub record LeavesCommand (whose : Whose) (master : List ℕ) (next : BackActed) (up down : List LinkMsg) (place : NamePlace) : Type 0 where
  pub placed : TalkShows whose next.state (up ++ messages_to master next.outs) down place
  pub outs : filter (is_own_out whose) next.outs ≡ []
