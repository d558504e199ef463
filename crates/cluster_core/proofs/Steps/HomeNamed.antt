-- A backend's name and partition stay what they are in each step of it.
use Rattle.std.proofs.Common.{◌≡◌, ◌≢◌, ℕ, Bool, false, cond, List, ◌∷◌, Option, None, Some, refl, ap, ◌∙◌}
use Rattle.link_msg.specs.declared.answer.AnswerBody.{AnswerBody}
use Rattle.link_msg.specs.declared.ask.FrontAsk.{FrontAsk}
use Rattle.link_msg.specs.declared.message.LinkMsg.{LinkMsg}
use Rattle.link_msg.specs.declared.message.LinkMsg.TheVariants.{Up, End, Line, Ask, Answer}
use Rattle.master_core.specs.declared.master.Master.{Master}
use Rattle.mupdate_codec.specs.Whole.{response_in}
use Rattle.mur_base.specs.declared.home.Location.{Location}
use Rattle.node_record.specs.Held.{Names}
use Rattle.name_flows.specs.declared.ask.AskKind.{AskKind}
use Rattle.name_flows.specs.declared.ask.NameAsk.{NameAsk}
use Rattle.name_flows.specs.declared.flows.Flows.{Flows}
use Rattle.name_flows.specs.declared.resync.Resync.{Resync}
use Rattle.name_flows.specs.Asked.{asked_by, asked_step, refusal, tested_by}
use Rattle.name_flows.specs.Link.{end_step}
use Rattle.name_flows.specs.Listing.{up_step}
use Rattle.back_node.specs.declared.node.BackNode.{BackNode}
use Rattle.back_node.specs.Acted.{BackActed}
use Rattle.back_node.specs.Node.{is_my_master}
use Rattle.back_node.specs.Takes.{UpToEntry, ask_by, line_by, name_ask, name_kind, node_takes, passed_over, talks, taken_up}
use Rattle.back_node.proofs.AtHome.{done_by}
use Rattle.feed_links.proofs.Names.{other_name}
use Rattle.name_links.specs.Serials.{Given}
use Rattle.back_links.specs.OneTalk.{HasTalk}
use Rattle.back_links.proofs.StepsSaid.{heard_said}
use Rattle.name_commands.proofs.AnswerSteps.{answered, takes_is}

abbrev pub me_of : BackActed → Location
me_of next = next.state.flows.me

-- in a step of another node's message
abbrev pub StaysWithOthers : Type 0
StaysWithOthers = (master : Master) (name : List ℕ) (node : BackNode) (up down : List LinkMsg) (given : Given) (from : List ℕ) (message : LinkMsg)
    → HasTalk master name node up down given → from ≢ master.me → me_of (node_takes node from message) ≡ node.flows.me

-- and of the master's
abbrev pub StaysWithMaster : Type 0
StaysWithMaster = (master : Master) (name : List ℕ) (node : BackNode) (up down : List LinkMsg) (given : Given) (message : LinkMsg)
    → HasTalk master name node up (message ∷ down) given → me_of (node_takes node master.me message) ≡ node.flows.me

tested_stays : (flows : Flows) (ask : NameAsk) (body : Option AnswerBody) → (tested_by flows ask body).flows.me ≡ flows.me
tested_stays flows ask (Some body) = refl
tested_stays flows ask None = refl

asked_by_stays : (flows : Flows) (held : Names) (ask : NameAsk) (resync : Option Resync) → (asked_by flows held ask resync).flows.me ≡ flows.me
unfolding asked_by
asked_by_stays flows held ask None = tested_stays flows ask (refusal flows held ask.name ask.kind)
asked_by_stays flows held ask (Some it) = refl

asked_stays : (flows : Flows) (held : Names) (ask : NameAsk) → (asked_step flows held ask).flows.me ≡ flows.me
unfolding asked_step
asked_stays flows held ask = asked_by_stays flows held ask flows.resync

ask_stays : (node : BackNode) (from : List ℕ) (ask : FrontAsk) (kind : Option AskKind) → me_of (done_by (ask_by node from ask kind)) ≡ node.flows.me
ask_stays node from ask None = refl
ask_stays node from ask (Some kind) = asked_stays node.flows node.home.held (name_ask from ask kind)

module _ (node : BackNode) (from : List ℕ) (other : is_my_master node from ≡ false) where
  passed : (it : UpToEntry) → me_of (done_by (cond (is_my_master node from) it (passed_over node))) ≡ node.flows.me
  passed it = ap (λ (mine : Bool). me_of (done_by (cond mine it (passed_over node)))) other

  stays_by : (message : LinkMsg) → me_of (node_takes node from message) ≡ node.flows.me
  unfolding taken_up
  stays_by Up = passed (talks node (up_step node.flows))
  stays_by End = passed (talks node (end_step node.flows))
  stays_by (Line line) = passed (line_by node (response_in line))
  stays_by (Ask ask) = ask_stays node from ask (name_kind ask.op)
  stays_by (Answer answer) = refl

pub stays_with_others : StaysWithOthers
stays_with_others master name node up down given from message talk ne =
    stays_by node from (other_name from node.flows.master (λ e. ne (e ∙ talk.each.its_master))) message

pub stays_with_master : StaysWithMaster
stays_with_master master name node up down given message talk =
    let its = answered master name node up down given message talk in
    ap me_of (takes_is master name node up down given message talk)
    ∙ (heard_said node.flows node.home.held talk.said its.tag its.it its.spelled.1).me_is
