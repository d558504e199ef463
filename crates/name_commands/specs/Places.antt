-- Where a CREATE or DELETE is at its backend, and between that and the master.
use Rattle.std.specs.Prelude.{◌≡◌, ℕ, ◌<◌, ◌^◌, Bool, true, false, List, [], ◌∷◌, filter, if◌then◌else◌, Option, None, Some}
use Rattle.std.specs.Ordering.{is_eq, nat_cmp}
use Rattle.std.specs.Cmp.Lexicographic.{slice_cmp}
use Rattle.link_msg.specs.declared.message.LinkMsg.{LinkMsg}
use Rattle.mail_message.specs.FirstAcl.{first_acl}
use Rattle.mupdate_codec.specs.declared.command.MCommand.{MCommand}
use Rattle.mupdate_codec.specs.declared.command.MCommand.TheVariants as command
use Rattle.master_core.specs.Changes.{text_of}
use Rattle.mupdate_codec.specs.declared.command.MResponse.{MResponse}
use Rattle.mupdate_codec.specs.declared.command.MResponse.TheVariants as response
use Rattle.mupdate_codec.specs.Asks.{tag_of}
use Rattle.mupdate_codec.specs.Whole.{response_in}
use Rattle.mur_base.specs.declared.home.Location.{Location}
use Rattle.mur_base.specs.declared.point.AskId.{AskId}
use Rattle.name_flows.specs.declared.ask.NameAsk.{NameAsk}
use Rattle.name_flows.specs.declared.flow.Flow.{Flow}
use Rattle.name_flows.specs.declared.flow.Stage.{Stage}
use Rattle.name_flows.specs.declared.flow.Stage.TheVariants.{Reserving, Making, Deactivating, Deleting}
use Rattle.name_flows.specs.declared.flows.Flows.{Flows}
use Rattle.name_flows.specs.declared.sent.Sent.{Sent}
use Rattle.name_flows.specs.declared.sent.Sent.TheVariants.{Reserve, Make, Deactivate, Delete}
use Rattle.name_flows.specs.declared.sent.SentLine.{SentLine}
use Rattle.name_flows.specs.Lines.{asked_line}
use Rattle.name_flows.specs.Link.{waiting_in}
use Rattle.name_flows.specs.Running.{flow_at}
use Rattle.back_node.specs.declared.node.BackNode.{BackNode}
use Rattle.back_links.specs.Written.{command_message, response_message}
use Rattle.name_commands.specs.Whose.{Whose, is_command, is_own_ask, is_own_line, is_own_message, own_flow}

-- ---- the line of a flow

-- what it waits for at each stage (RFC 3656, 4.1, 4.3, 4.4 and 4.9)
abbrev pub stage_line : Stage → List ℕ → Sent
stage_line Reserving name = Reserve name
stage_line Making name = Make name
stage_line Deactivating name = Deactivate name
stage_line Deleting name = Delete name

-- under the tag of its command
abbrev pub flow_line : List ℕ → Flow → SentLine
flow_line name flow = asked_line flow.ask (stage_line flow.stage name)

-- as the master takes it
abbrev pub stage_command : Location → List ℕ → Stage → MCommand
stage_command me name Reserving = command.Reserve name me
stage_command me name Making = command.Activate name me (first_acl name)
stage_command me name Deactivating = command.Deactivate name me
stage_command me name Deleting = command.Delete name

abbrev pub flow_message : Location → List ℕ → Flow → LinkMsg
flow_message me name flow = command_message (tag_of flow.ask, stage_command me name flow.stage)

-- and the master's response to it, under the same tag
abbrev pub answer_message : Flow → MResponse → LinkMsg
answer_message flow it = response_message (tag_of flow.ask, it)

-- Which responses come to the line of a stage: OK, and where it may be refused, NO and BAD.
abbrev pub may_come : Stage → MResponse → Bool
may_come Reserving (response.Ok text) = true
may_come Reserving (response.No text) = true
may_come Reserving (response.Bad text) = true
may_come Making (response.Ok text) = true
may_come Making (response.No text) = true
may_come Making (response.Bad text) = true
may_come Deactivating (response.Ok text) = true
may_come Deleting (response.Ok text) = true
may_come stage it = false

-- ---- places

-- It is nowhere here; it waits for the end of a resync; the line of its flow on a name is on its way to the master, or the response to that is on its
-- way back.
pub data NamePlace : Type 0 where
  nowhere : NamePlace
  waits : NameAsk → NamePlace
  sends : List ℕ → Flow → NamePlace
  hears : List ℕ → Flow → MResponse → NamePlace

abbrev pub asks_at : NamePlace → List NameAsk
asks_at nowhere = []
asks_at (waits ask) = ask ∷ []
asks_at (sends name flow) = []
asks_at (hears name flow it) = []

abbrev pub on_name : List ℕ → Flow → List ℕ → Option Flow
on_name name flow other = if is_eq (slice_cmp nat_cmp name other) then Some flow else None

abbrev pub flows_at : NamePlace → List ℕ → Option Flow
flows_at nowhere other = None
flows_at (waits ask) other = None
flows_at (sends name flow) other = on_name name flow other
flows_at (hears name flow it) other = on_name name flow other

abbrev pub lines_at : NamePlace → List SentLine
lines_at nowhere = []
lines_at (waits ask) = []
lines_at (sends name flow) = flow_line name flow ∷ []
lines_at (hears name flow it) = flow_line name flow ∷ []

-- its numbers are of 64 bits, so that its tag tells it
abbrev pub IsNumbered : AskId → Type 0
IsNumbered id = (id.conn < 2 ^ 64) × (id.command < 2 ^ 64)

abbrev pub HasNumbers : NamePlace → Type 0
HasNumbers nowhere = Unit {0}
HasNumbers (waits ask) = IsNumbered ask.id
HasNumbers (sends name flow) = IsNumbered flow.ask
HasNumbers (hears name flow it) = IsNumbered flow.ask

-- Of all asks that wait, all flows by their names, and all lines whose last answer hasn't come, just these are theirs.
pub record FlowsShow (whose : Whose) (flows : Flows) (place : NamePlace) : Type 0 where
  pub waiting : filter (is_own_ask whose) (waiting_in flows.resync) ≡ asks_at place
  pub running : (name : List ℕ) → own_flow whose (flow_at flows name) ≡ flows_at place name
  pub sent : filter (is_own_line whose) flows.sent ≡ lines_at place
  pub numbered : HasNumbers place

-- Each command is in one place: so each flow has one line whose last answer hasn't come, that of its stage under its command's tag, each line under a
-- command's tag has such a flow, and no two flows or waiting asks are of one command.
abbrev pub FlowsTell : Flows → Type 0
FlowsTell flows = (id : AskId) → (place : NamePlace) × FlowsShow (is_command id) flows place

-- ---- with the messages between the backend and the master

abbrev pub ups_at : Location → NamePlace → List LinkMsg
ups_at me nowhere = []
ups_at me (waits ask) = []
ups_at me (sends name flow) = flow_message me name flow ∷ []
ups_at me (hears name flow it) = []

abbrev pub downs_at : NamePlace → List LinkMsg
downs_at nowhere = []
downs_at (waits ask) = []
downs_at (sends name flow) = []
downs_at (hears name flow it) = answer_message flow it ∷ []

-- a response is one that may come, and is read again
pub record IsResponse (flow : Flow) (it : MResponse) : Type 0 where
  pub fits : may_come flow.stage it ≡ true
  pub read : response_in (text_of (tag_of flow.ask) it) ≡ Some (tag_of flow.ask, it)

abbrev pub IsKnown : NamePlace → Type 0
IsKnown nowhere = Unit {0}
IsKnown (waits ask) = Unit {0}
IsKnown (sends name flow) = Unit {0}
IsKnown (hears name flow it) = IsResponse flow it

-- and of all these messages just this one is about it
pub record TalkShows (whose : Whose) (node : BackNode) (up down : List LinkMsg) (place : NamePlace) : Type 0 where
  pub at : FlowsShow whose node.flows place
  pub up_is : filter (is_own_message whose) up ≡ ups_at node.flows.me place
  pub down_is : filter (is_own_message whose) down ≡ downs_at place
  pub known : IsKnown place

-- each command is in one place
abbrev pub TalkTells : BackNode → List LinkMsg → List LinkMsg → Type 0
TalkTells node up down = (id : AskId) → (place : NamePlace) × TalkShows (is_command id) node up down place
