-- A CREATE or DELETE changes no mailbox in the step in which it comes, and waits as long as a resync runs.
use Rattle.std.proofs.Common.{◌≡◌, ℕ, List, [], ◌∷◌, ◌++◌, Option, None, Some, refl, ap, ◌∙◌, append-nil}
use Rattle.link_msg.specs.declared.answer.AnswerBody.{AnswerBody}
use Rattle.link_msg.specs.declared.ask.FrontAsk.{FrontAsk}
use Rattle.link_msg.specs.declared.message.LinkMsg.TheVariants.{Ask}
use Rattle.node_record.specs.declared.backend.BackendRecord.{BackendRecord}
use Rattle.node_record.specs.Held.{Names}
use Rattle.name_flows.specs.declared.ask.AskKind.{AskKind}
use Rattle.name_flows.specs.declared.ask.NameAsk.{NameAsk}
use Rattle.name_flows.specs.declared.flows.Flows.{Flows}
use Rattle.name_flows.specs.declared.resync.Resync.{Resync}
use Rattle.name_flows.specs.declared.sent.SentLine.{SentLine}
use Rattle.name_flows.specs.Asked.{asked_by, asked_step, refusal, tested_by}
use Rattle.back_node.specs.declared.node.BackNode.{BackNode}
use Rattle.back_node.specs.Acted.{BackActed, home_with}
use Rattle.back_node.specs.NodeLaws.{ChangesNoMailbox, waits_on}
use Rattle.back_node.specs.Takes.{ask_by, name_ask, name_kind, node_takes, taken_up, talks}
use Rattle.back_node.proofs.AtHome.{done_by}

-- the step of a CREATE or DELETE
pub name_step : (node : BackNode) (from : List ℕ) (ask : FrontAsk) (kind : AskKind) → name_kind ask.op ≡ Some kind
    → node_takes node from (Ask ask) ≡ done_by (talks node (asked_step node.flows node.home.held (name_ask from ask kind)))
unfolding taken_up
name_step node from ask kind named = ap (λ (k : Option AskKind). done_by (ask_by node from ask k)) named

tests_only : (flows : Flows) (ask : NameAsk) (refused : Option AnswerBody) → (tested_by flows ask refused).entry ≡ None
tests_only flows ask None = refl
tests_only flows ask (Some body) = refl

asks_only : (flows : Flows) (held : Names) (ask : NameAsk) (resync : Option Resync) → (asked_by flows held ask resync).entry ≡ None
unfolding asked_by
asks_only flows held ask None = tests_only flows ask (refusal flows held ask.name ask.kind)
asks_only flows held ask (Some it) = refl

writes_nothing : (flows : Flows) (held : Names) (ask : NameAsk) → (asked_step flows held ask).entry ≡ None
unfolding asked_step
writes_nothing flows held ask = asks_only flows held ask flows.resync

pub changes_no_mailbox : (node : BackNode) (from : List ℕ) (ask : FrontAsk) (kind : AskKind) → name_kind ask.op ≡ Some kind
    → ChangesNoMailbox node from ask
changes_no_mailbox node from ask kind named =
    let none = writes_nothing node.flows node.home.held (name_ask from ask kind) in
    record {
      entry = ap (λ (it : BackActed). it.entry) (name_step node from ask kind named) ∙ none;
      home = ap (λ (it : BackActed). it.state.home) (name_step node from ask kind named)
          ∙ ap (λ (entry : Option BackendRecord). home_with node.home entry) none;
    }

-- the lines sent stay as they were
waits_still : (node : BackNode) (ask : NameAsk) (it : Resync) (sent : List SentLine) → BackActed
waits_still node ask it sent = record {
  state = record node { flows = record node.flows { resync = Some (record it { waiting = it.waiting ++ ask ∷ [] }); sent = sent } };
  entry = None;
  outs = [];
}

pub waits_for_resync : (node : BackNode) (from : List ℕ) (ask : FrontAsk) (kind : AskKind) (it : Resync) → name_kind ask.op ≡ Some kind
    → node.flows.resync ≡ Some it → node_takes node from (Ask ask) ≡ waits_on node (name_ask from ask kind) it
unfolding asked_step asked_by waits_still
waits_for_resync node from ask kind it named resync =
    name_step node from ask kind named
    ∙ ap (λ (r : Option Resync). done_by (talks node (asked_by node.flows node.home.held (name_ask from ask kind) r))) resync
    ∙ ap (waits_still node (name_ask from ask kind) it) (append-nil node.flows.sent)
