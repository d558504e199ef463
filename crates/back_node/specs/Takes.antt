-- A message comes to a backend from another node. It speaks of names with the master (RFC 3656), and serves frontends.
use Rattle.std.specs.Prelude.{ℕ, if◌then◌else◌, List, [], ◌∷◌, ◌++◌, map, Option, None, Some}
use Rattle.imap_types.specs.declared.op.Op.{Op}
use Rattle.imap_types.specs.declared.op.Op.TheVariants as op
use Rattle.link_msg.specs.declared.ask.FrontAsk.{FrontAsk}
use Rattle.link_msg.specs.declared.message.LinkMsg.{LinkMsg}
use Rattle.link_msg.specs.declared.message.LinkMsg.TheVariants.{Up, End, Line, Ask, Answer}
use Rattle.link_msg.specs.declared.out.Out.{Out}
use Rattle.link_msg.specs.declared.out.Out.TheVariants.{Link}
use Rattle.mupdate_codec.specs.declared.command.MResponse.{MResponse}
use Rattle.mupdate_codec.specs.declared.tag.Tag.{Tag}
use Rattle.mupdate_codec.specs.Whole.{response_in}
use Rattle.node_record.specs.declared.backend.BackendRecord.{BackendRecord}
use Rattle.backend_core.specs.declared.plan.BackPlan.{BackPlan}
use Rattle.backend_core.specs.Plan.{back_plan}
use Rattle.name_flows.specs.declared.ask.AskKind.{AskKind}
use Rattle.name_flows.specs.declared.ask.AskKind.TheVariants.{Create, Delete}
use Rattle.name_flows.specs.declared.ask.NameAsk.{NameAsk}
use Rattle.name_flows.specs.declared.ask.Told.{Told}
use Rattle.name_flows.specs.declared.gives.Step.{Step}
use Rattle.name_flows.specs.Asked.{asked_step}
use Rattle.name_flows.specs.Heard.{heard_step}
use Rattle.name_flows.specs.Link.{end_step}
use Rattle.name_flows.specs.Listing.{up_step}
use Rattle.name_flows.specs.Steps.{FlowStep, Handed, handed}
use Rattle.back_node.specs.declared.node.BackNode.{BackNode}
use Rattle.back_node.specs.declared.rest.Rest.{Rest}
use Rattle.back_node.specs.declared.rest.Says.TheVariants.{Now, Owed}
use Rattle.back_node.specs.Acted.{BackActed, acted}
use Rattle.back_node.specs.Node.{is_my_master}

-- a step up to its entry: the state, with the mailboxes as they were, and the rest of the step
pub record UpToEntry : Type 0 where
  pub node : BackNode
  pub rest : Rest

abbrev pub passed_over : BackNode → UpToEntry
passed_over node = record { node = node; rest = record { entry = None; says = Now [] } }

-- ---- the talk with the master

abbrev pub line_out : List ℕ → List ℕ → Out
line_out master line = Link master (Line line)

abbrev pub answer_out : Told → Out
answer_out told = Link told.front (Answer told.answer)

-- lines go to the master, then answers to the frontends whose commands they are
abbrev pub step_outs : List ℕ → Step → List Out
step_outs master step = map (line_out master) step.lines ++ map answer_out step.answers

abbrev pub talked : BackNode → Handed → UpToEntry
talked node it = record {
  node = record node { flows = it.flows };
  rest = record { entry = it.step.entry; says = Now (step_outs it.flows.master it.step) };
}

abbrev pub talks : BackNode → FlowStep → UpToEntry
talks node step = talked node (handed node.home.held step)

-- bytes that are no line of a response change nothing
abbrev pub line_by : BackNode → Option (Tag × MResponse) → UpToEntry
line_by node None = passed_over node
line_by node (Some it) = talks node (heard_step node.flows node.home.held it.0 it.1)

-- ---- asks of frontends

-- CREATE and DELETE need the master. Every other ask is for the messages of a mailbox, but an XFER, of which nothing comes.
abbrev pub name_kind : Op → Option AskKind
name_kind op.Create = Some Create
name_kind op.Delete = Some Delete
name_kind it = None

abbrev pub name_ask : List ℕ → FrontAsk → AskKind → NameAsk
name_ask from ask kind = record { front = from; id = ask.id; name = ask.name; kind = kind }

-- an ask for messages writes one entry at most
abbrev pub only_entry : List BackendRecord → Option BackendRecord
only_entry [] = None
only_entry (entry ∷ entries) = Some entry

-- the home carries it out where the mailbox is open here
abbrev pub serves : BackNode → BackPlan → UpToEntry
serves node plan = record { node = node; rest = record { entry = only_entry plan.entries; says = Owed plan.owed } }

abbrev pub ask_by : BackNode → List ℕ → FrontAsk → Option AskKind → UpToEntry
ask_by node from ask (Some kind) = talks node (asked_step node.flows node.home.held (name_ask from ask kind))
ask_by node from ask None = serves node (back_plan node.home from ask)

-- ---- a message, by what it is and who sent it

unfoldable pub taken_up : BackNode → List ℕ → LinkMsg → UpToEntry
taken_up node from Up = if is_my_master node from then talks node (up_step node.flows) else passed_over node
taken_up node from End = if is_my_master node from then talks node (end_step node.flows) else passed_over node
taken_up node from (Line line) = if is_my_master node from then line_by node (response_in line) else passed_over node
taken_up node from (Ask ask) = ask_by node from ask (name_kind ask.op)
taken_up node from (Answer answer) = passed_over node

-- a step of a backend
abbrev pub node_takes : BackNode → List ℕ → LinkMsg → BackActed
node_takes node from message = acted (taken_up node from message).node (taken_up node from message).rest
