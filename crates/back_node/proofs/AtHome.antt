-- An ask for messages does what it does at its home of mailboxes.
use Rattle.std.proofs.Common.{◌≡◌, ℕ, List, Option, None, ap, ◌∙◌}
use Rattle.link_msg.specs.declared.ask.FrontAsk.{FrontAsk}
use Rattle.link_msg.specs.declared.message.LinkMsg.TheVariants.{Ask}
use Rattle.node_record.specs.declared.backend.BackendRecord.{BackendRecord}
use Rattle.backend_core.specs.declared.plan.BackPlan.{BackPlan}
use Rattle.backend_core.specs.OpPlan.{home_after}
use Rattle.backend_core.specs.Plan.{back_plan, owed_outs, plan_of}
use Rattle.name_flows.specs.declared.ask.AskKind.{AskKind}
use Rattle.back_node.specs.declared.node.BackNode.{BackNode}
use Rattle.back_node.specs.Acted.{BackActed, acted, listed_entry}
use Rattle.back_node.specs.NodeLaws.{IsAtHome}
use Rattle.back_node.specs.Takes.{UpToEntry, ask_by, name_kind, node_takes, only_entry, serves, taken_up}
use Rattle.back_node.proofs.OnlyEntry.{message_entries}

abbrev pub done_by : UpToEntry → BackActed
done_by it = acted it.node it.rest

-- the step of an ask for messages
pub message_step : (node : BackNode) (from : List ℕ) (ask : FrontAsk) → name_kind ask.op ≡ None
    → node_takes node from (Ask ask) ≡ done_by (serves node (back_plan node.home from ask))
unfolding taken_up
message_step node from ask none = ap (λ (kind : Option AskKind). done_by (ask_by node from ask kind)) none

pub ask_is_at_home : (node : BackNode) (from : List ℕ) (ask : FrontAsk) → name_kind ask.op ≡ None → IsAtHome node from ask
unfolding plan_of
ask_is_at_home node from ask none =
    let plan : BackPlan = back_plan node.home from ask in
    let step = message_step node from ask none in
    let one : listed_entry (only_entry plan.entries) ≡ plan.entries = (message_entries node.home from ask none).one in
    record {
      entry = ap (λ (it : BackActed). listed_entry it.entry) step ∙ one;
      home = ap (λ (it : BackActed). it.state.home) step ∙ ap (λ (entries : List BackendRecord). home_after node.home entries) one;
      flows = ap (λ (it : BackActed). it.state.flows) step;
      outs = ap (λ (it : BackActed). it.outs) step ∙ ap (λ (entries : List BackendRecord). owed_outs (home_after node.home entries) plan.owed) one;
    }
