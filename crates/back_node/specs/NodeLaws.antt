-- What holds of the steps of a backend.
use Rattle.std.specs.Prelude.{◌≡◌, ℕ, Bool, true, false, ⊤, All, List, [], ◌∷◌, ◌++◌, Option, None, Some}
use Rattle.std.specs.List.{flat_map}
use Rattle.std.specs.Map.{values_of}
use Rattle.imap_types.specs.declared.op.Op.{Op}
use Rattle.imap_types.specs.declared.op.Op.TheVariants as op
use Rattle.link_msg.specs.declared.answer.AnswerBody.{AnswerBody}
use Rattle.link_msg.specs.declared.answer.AnswerBody.TheVariants.{Done, NotNow, Moved}
use Rattle.link_msg.specs.declared.ask.FrontAsk.{FrontAsk}
use Rattle.link_msg.specs.declared.counts.Counts.TheVariants.{IfAnswered}
use Rattle.link_msg.specs.declared.message.LinkMsg.{LinkMsg}
use Rattle.link_msg.specs.declared.message.LinkMsg.TheVariants.{Line, Ask, Answer}
use Rattle.link_msg.specs.declared.out.Out.{Out}
use Rattle.link_msg.specs.declared.out.Out.TheVariants.{Link, Mark}
use Rattle.node_record.specs.declared.backend.BackendRecord.{BackendRecord}
use Rattle.node_record.specs.declared.held.Held.{Held}
use Rattle.backend_core.specs.Plan.{answer_outs, plan_of}
use Rattle.backend_core.specs.Step.{home_step}
use Rattle.home_law.specs.Steps.{BackStep}
use Rattle.name_flows.specs.declared.ask.NameAsk.{NameAsk}
use Rattle.name_flows.specs.declared.flow.Flow.{Flow}
use Rattle.name_flows.specs.declared.flows.Flows.{Flows}
use Rattle.name_flows.specs.declared.resync.Resync.{Resync}
use Rattle.name_flows.specs.declared.sent.SentLine.{SentLine}
use Rattle.name_flows.specs.Link.{waiting_in}
use Rattle.name_flows.specs.OneName.{ctl_of, line_items}
use Rattle.name_flows.specs.Phases.{pointer_in}
use Rattle.back_node.specs.declared.node.BackNode.{BackNode}
use Rattle.back_node.specs.Acted.{BackActed, listed_entry}
use Rattle.back_node.specs.Takes.{node_takes}

-- ---- courses of steps

-- a backend after messages, each with who sent it
unfoldable pub after_messages : BackNode → List (List ℕ × LinkMsg) → BackNode
after_messages node [] = node
after_messages node (it ∷ all) = after_messages (node_takes node it.0 it.1).state all

-- the entries that it writes of them
unfoldable pub entries_of_messages : BackNode → List (List ℕ × LinkMsg) → List BackendRecord
entries_of_messages node [] = []
entries_of_messages node (it ∷ all) = listed_entry (node_takes node it.0 it.1).entry ++ entries_of_messages (node_takes node it.0 it.1).state all

-- ---- asks for messages

abbrev pub is_of_messages : Op → Bool
is_of_messages op.Look = true
is_of_messages (op.Read uids sees) = true
is_of_messages (op.Summaries uids) = true
is_of_messages (op.Flags uids mode flags) = true
is_of_messages (op.Expunge only) = true
is_of_messages (op.Append messages) = true
is_of_messages it = false

-- carried out, or refused for good
abbrev pub IsDone : Option AnswerBody → Type 0
IsDone (Some (Done outcome snapshot)) = ⊤
IsDone it = ⊥

-- An ask for messages is the operation that it asks for, carried out in its step and answered.
pub record IsCarriedOut (node : BackNode) (from : List ℕ) (ask : FrontAsk) : Type 0 where
  pub home : (node_takes node from (Ask ask)).state.home ≡ (home_step node.home ask).home
  pub flows : (node_takes node from (Ask ask)).state.flows ≡ node.flows
  pub outs : (node_takes node from (Ask ask)).outs ≡ answer_outs from ask.id (home_step node.home ask).counts (home_step node.home ask).body
  pub done : IsDone (home_step node.home ask).body

abbrev pub elsewhere_by : Option (List ℕ) → AnswerBody
elsewhere_by None = NotNow
elsewhere_by (Some server) = Moved server

-- what is answered where the mailbox isn't open: the server that it has moved to, or that it can't be served now
abbrev pub elsewhere : Option Held → AnswerBody
elsewhere found = elsewhere_by (pointer_in found)

-- an ask is answered and nothing is changed
abbrev pub answered_only : BackNode → List ℕ → FrontAsk → AnswerBody → BackActed
answered_only node from ask body = record {
  state = node;
  entry = None;
  outs = Link from (Answer (record { id = ask.id; body = body })) ∷ Mark ask.id IfAnswered ∷ [];
}

-- An ask for messages does what it does at its home of mailboxes: with at most one entry, and whatever is under way.
pub record IsAtHome (node : BackNode) (from : List ℕ) (ask : FrontAsk) : Type 0 where
  pub entry : listed_entry (node_takes node from (Ask ask)).entry ≡ (plan_of node.home from ask).entries
  pub home : (node_takes node from (Ask ask)).state.home ≡ (plan_of node.home from ask).home
  pub flows : (node_takes node from (Ask ask)).state.flows ≡ node.flows
  pub outs : (node_takes node from (Ask ask)).outs ≡ (plan_of node.home from ask).outs

-- ---- asks for names

-- A CREATE or DELETE changes no mailbox in the step in which it comes.
pub record ChangesNoMailbox (node : BackNode) (from : List ℕ) (ask : FrontAsk) : Type 0 where
  pub entry : (node_takes node from (Ask ask)).entry ≡ None
  pub home : (node_takes node from (Ask ask)).state.home ≡ node.home

-- it waits behind those that wait
abbrev pub waits_on : BackNode → NameAsk → Resync → BackActed
waits_on node ask it = record {
  state = record node { flows = record node.flows { resync = Some (record it { waiting = it.waiting ++ ask ∷ [] }) } };
  entry = None;
  outs = [];
}

-- ---- to whom a step says something

abbrev pub IsAmong : (List ℕ → Bool) → List ℕ → Type 0
IsAmong some node = some node ≡ true

-- lines go to the master, answers to those who may be told, and a step may count for a command
abbrev pub IsSaid : List ℕ → (List ℕ → Type 0) → Out → Type 0
IsSaid master may (Link to (Line line)) = to ≡ master
IsSaid master may (Link to (Answer answer)) = may to
IsSaid master may (Mark ask counts) = ⊤
IsSaid master may it = ⊥

abbrev pub IsForOne : (List ℕ → Type 0) → Flow → Type 0
IsForOne may flow = may flow.front

abbrev pub IsOfOne : (List ℕ → Type 0) → NameAsk → Type 0
IsOfOne may ask = may ask.front

-- those whose CREATEs and DELETEs are under way or wait may be told
pub record OwesOnly (may : List ℕ → Type 0) (flows : Flows) : Type 0 where
  pub running : All (IsForOne may) (values_of flows.running)
  pub waiting : All (IsOfOne may) (waiting_in flows.resync)

-- one who asks may be told
abbrev pub AsksAs : (List ℕ → Type 0) → List ℕ → LinkMsg → Type 0
AsksAs may from (Ask ask) = may from
AsksAs may from message = ⊤

pub record SaysOnly (may : List ℕ → Type 0) (node : BackNode) (it : BackActed) : Type 0 where
  pub outs : All (IsSaid node.flows.master may) it.outs
  pub owes : OwesOnly may it.state.flows
  pub master : it.state.flows.master ≡ node.flows.master

-- ---- one name

-- a step that sends these lines, as it is to one name
abbrev pub step_to : List ℕ → Bool → BackActed → List SentLine → BackStep
step_to name linked it sends = record { ctl = ctl_of linked it.state.home.held it.state.flows name; says = flat_map (line_items name) sends }
