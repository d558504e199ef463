-- What holds of each row of the table holds of each step.
use Rattle.std.proofs.Common.{◌≡◌, ℕ, Bool, true, false, cond, List, Option, None, Some, refl}
use Rattle.link_msg.specs.declared.ask.FrontAsk.{FrontAsk}
use Rattle.link_msg.specs.declared.message.LinkMsg.{LinkMsg}
use Rattle.link_msg.specs.declared.message.LinkMsg.TheVariants.{Up, End, Line, Ask, Answer}
use Rattle.mupdate_codec.specs.declared.command.MResponse.{MResponse}
use Rattle.mupdate_codec.specs.declared.tag.Tag.{Tag}
use Rattle.mupdate_codec.specs.Whole.{response_in}
use Rattle.backend_core.specs.Plan.{back_plan}
use Rattle.name_flows.specs.declared.ask.AskKind.{AskKind}
use Rattle.name_flows.specs.Asked.{asked_step}
use Rattle.name_flows.specs.Heard.{heard_step}
use Rattle.name_flows.specs.Link.{end_step}
use Rattle.name_flows.specs.Listing.{up_step}
use Rattle.back_node.specs.declared.node.BackNode.{BackNode}
use Rattle.back_node.specs.Node.{is_my_master}
use Rattle.back_node.specs.Takes.{UpToEntry, ask_by, line_by, name_ask, name_kind, passed_over, serves, taken_up, talks}

pub record OfEachRow (P : UpToEntry → Type 0) (node : BackNode) (from : List ℕ) (message : LinkMsg) : Type 0 where
  pub nothing : P (passed_over node)
  pub up : P (talks node (up_step node.flows))
  pub ended : P (talks node (end_step node.flows))
  pub heard : (tag : Tag) (it : MResponse) → P (talks node (heard_step node.flows node.home.held tag it))
  pub named : (ask : FrontAsk) (kind : AskKind) → message ≡ Ask ask → name_kind ask.op ≡ Some kind
      → P (talks node (asked_step node.flows node.home.held (name_ask from ask kind)))
  pub served : (ask : FrontAsk) → message ≡ Ask ask → name_kind ask.op ≡ None → P (serves node (back_plan node.home from ask))

if_master : (P : UpToEntry → Type 0) (test : Bool) (one other : UpToEntry) → P one → P other → P (cond test one other)
if_master P true one other p q = p
if_master P false one other p q = q

of_line : (P : UpToEntry → Type 0) (node : BackNode) (read : Option (Tag × MResponse)) → P (passed_over node)
    → ((tag : Tag) (it : MResponse) → P (talks node (heard_step node.flows node.home.held tag it))) → P (line_by node read)
of_line P node None p heard = p
of_line P node (Some it) p heard = heard it.0 it.1

of_ask : (P : UpToEntry → Type 0) (node : BackNode) (from : List ℕ) (ask : FrontAsk) (kind : Option AskKind) → name_kind ask.op ≡ kind
    → OfEachRow P node from (Ask ask) → P (ask_by node from ask kind)
of_ask P node from ask (Some kind) is rows = rows.named ask kind refl is
of_ask P node from ask None is rows = rows.served ask refl is

pub each_row : (P : UpToEntry → Type 0) (node : BackNode) (from : List ℕ) (message : LinkMsg) → OfEachRow P node from message
    → P (taken_up node from message)
unfolding taken_up
each_row P node from Up rows = if_master P (is_my_master node from) (talks node (up_step node.flows)) (passed_over node) rows.up rows.nothing
each_row P node from End rows = if_master P (is_my_master node from) (talks node (end_step node.flows)) (passed_over node) rows.ended rows.nothing
each_row P node from (Line line) rows =
    if_master P (is_my_master node from) (line_by node (response_in line)) (passed_over node)
    (of_line P node (response_in line) rows.nothing rows.heard) rows.nothing
each_row P node from (Ask ask) rows = of_ask P node from ask (name_kind ask.op) refl rows
each_row P node from (Answer answer) rows = rows.nothing
