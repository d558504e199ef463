-- Which names of a backend a step of it leaves as they are.
use Rattle.std.proofs.Common.{◌≡◌, ◌≢◌, ◌&&◌, ℕ, Bool, true, false, nat_eq, cond, List, [], ◌∷◌, Option, None, Some, refl, sym, ap, subst, ◌∙◌}
use Rattle.std.specs.List.{AllByRecursion}
use Rattle.std.specs.Cmp.Lexicographic.{pointwise}
use Rattle.backend_core.specs.declared.backend.Backend.{Backend}
use Rattle.backend_core.specs.declared.op_plan.OpPlan.{OpPlan}
use Rattle.backend_core.specs.AskPlan.{ask_plan, op_plan}
use Rattle.backend_core.specs.HomeLaws.{is_open_here}
use Rattle.backend_core.specs.HomeStep.{held_at}
use Rattle.backend_core.specs.OpPlan.{home_after}
use Rattle.backend_core.specs.Plan.{owes, plan_of}
use Rattle.backend_core.proofs.Others.{other_by}
use Rattle.backend_core.proofs.PlanLeaves.{WritesIf, left_by, plan_writes}
use Rattle.imap_types.specs.declared.op.Op.{Op}
use Rattle.imap_types.specs.declared.op.Op.TheVariants.{Look, Read, Summaries, Flags, Expunge, Append, Create, Delete, Xfer}
use Rattle.link_msg.specs.declared.ask.FrontAsk.{FrontAsk}
use Rattle.link_msg.specs.declared.message.LinkMsg.{LinkMsg}
use Rattle.link_msg.specs.declared.message.LinkMsg.TheVariants.{Up, End, Line, Ask, Answer}
use Rattle.mur_base.specs.declared.point.AskId.{AskId}
use Rattle.mupdate_codec.specs.declared.command.MResponse.{MResponse}
use Rattle.mupdate_codec.specs.declared.tag.Tag.{Tag}
use Rattle.mupdate_codec.specs.Whole.{response_in}
use Rattle.name_flows.specs.declared.ask.AskKind.{AskKind}
use Rattle.name_flows.specs.Asked.{asked_step}
use Rattle.name_flows.specs.Heard.{heard_step}
use Rattle.name_flows.specs.Link.{end_step}
use Rattle.name_flows.specs.Listing.{up_step}
use Rattle.name_flows.specs.Steps.{held_with}
use Rattle.back_node.specs.declared.node.BackNode.{BackNode}
use Rattle.back_node.specs.Acted.{BackActed}
use Rattle.back_node.specs.Node.{is_my_master}
use Rattle.back_node.specs.NodeLaws.{is_of_messages}
use Rattle.back_node.specs.Takes.{UpToEntry, ask_by, line_by, name_ask, name_kind, node_takes, passed_over, talks, taken_up}
use Rattle.back_node.proofs.AtHome.{ask_is_at_home, done_by}
use Rattle.back_node.proofs.Courses.{with_one}
use Rattle.back_node.proofs.OpenHere.{elsewhere_is_told}
use Rattle.feed_links.proofs.Names.{same_name}
use Rattle.home_law.specs.Items.{Server}
use Rattle.home_law.specs.ManyNames.{Mailbox}
use Rattle.master_core.specs.declared.master.Master.{Master}
use Rattle.master_core.specs.Changes.{text_of}
use Rattle.node_record.specs.Held.{Names, held_at as in_names}
use Rattle.node_record.specs.Table.{empty_table}
use Rattle.name_links.specs.Contents.{content_in}
use Rattle.name_links.specs.OneLink.{OneLink}
use Rattle.name_links.specs.Serials.{Given}
use Rattle.name_links.proofs.LeavesLaw.{asks_leave, hears_leave}
use Rattle.back_links.specs.OneTalk.{link_of, HasTalk}
use Rattle.back_links.specs.Spelled.{HasResponseTexts}
use Rattle.back_links.specs.Written.{response_message}
use Rattle.back_links.proofs.Queues.{IsFirst, first_of}
use Rattle.back_links.proofs.Texts.{response_read}
use Rattle.store_links.specs.TableEntries.{acl_at}
use Rattle.many_links.specs.HomeEvents.{is_served}

-- ---- an ask for messages: all other names

plan_else : (home : Backend) (from : List ℕ) (id : AskId) (name n : List ℕ) (plan : Option OpPlan) → n ≢ name → WritesIf home name plan
    → held_at (home_after home (owes from id plan).entries) n ≡ held_at home n
plan_else home from id name n None ne left = refl
plan_else home from id name n (Some plan) ne left =
    other_by home name n (home_after home plan.entries) ne (left_by home name (home_after home plan.entries) left)

pub others_left : (node : BackNode) (from : List ℕ) (ask : FrontAsk) (n : List ℕ) → name_kind ask.op ≡ None → n ≢ ask.name
    → held_at (node_takes node from (Ask ask)).state.home n ≡ held_at node.home n
unfolding plan_of
others_left node from ask n none ne =
    ap (λ (home : Backend). held_at home n) (ask_is_at_home node from ask none).home
    ∙ plan_else node.home from ask.id ask.name n (ask_plan node.home ask) ne (plan_writes node.home ask)

-- ---- what isn't such an ask, of another node than the master: all names

pub no_plan : (home : Backend) (ask : FrontAsk) (op : Op) → is_of_messages op ≡ false → name_kind op ≡ None → op_plan home ask op ≡ None
unfolding op_plan
no_plan home ask Look of none = cc
no_plan home ask (Read uids sees) of none = cc
no_plan home ask (Summaries uids) of none = cc
no_plan home ask (Flags uids mode flags) of none = cc
no_plan home ask (Expunge only) of none = cc
no_plan home ask (Append messages) of none = cc
no_plan home ask Create of none = cc
no_plan home ask Delete of none = refl
no_plan home ask (Xfer server partition) of none = refl

nothing_planned : (home : Backend) (from : List ℕ) (ask : FrontAsk) → is_of_messages ask.op ≡ false → name_kind ask.op ≡ None
    → (plan_of home from ask).home ≡ home
unfolding plan_of ask_plan
nothing_planned home from ask of none =
    ap (λ (plan : Option OpPlan). home_after home (owes from ask.id plan).entries) (no_plan home ask ask.op of none)

-- CREATE and DELETE change nothing in the step in which they come
names_stay : (node : BackNode) (from : List ℕ) (ask : FrontAsk) (kind : AskKind) → name_kind ask.op ≡ Some kind
    → (node_takes node from (Ask ask)).state.home.held ≡ node.home.held
unfolding taken_up
names_stay node from ask kind named =
    let link : OneLink = record { table = empty_table; flows = node.flows; held = node.home.held; ups = []; downs = [] } in
    ap (λ (k : Option AskKind). (done_by (ask_by node from ask k)).state.home.held) named
    ∙ with_one node.home (asked_step node.flows node.home.held (name_ask from ask kind)).entry
    ∙ asks_leave link (name_ask from ask kind)

module _ (node : BackNode) (from : List ℕ) (other : is_my_master node from ≡ false) where
  passed : (it : UpToEntry) → (done_by (cond (is_my_master node from) it (passed_over node))).state.home.held ≡ node.home.held
  passed it = ap (λ (mine : Bool). (done_by (cond mine it (passed_over node))).state.home.held) other

  ask_stays : (ask : FrontAsk) (of : Bool) (kind : Option AskKind) → is_of_messages ask.op ≡ of → name_kind ask.op ≡ kind
      → (of && is_open_here (held_at node.home ask.name)) ≡ false → (node_takes node from (Ask ask)).state.home.held ≡ node.home.held
  ask_stays ask of (Some kind) is named closed = names_stay node from ask kind named
  ask_stays ask true None is named closed = ap (λ (it : BackActed). it.state.home.held) (elsewhere_is_told node from ask is closed)
  ask_stays ask false None is named closed =
      ap (λ (home : Backend). home.held) ((ask_is_at_home node from ask named).home ∙ nothing_planned node.home from ask is named)

  pub home_stays : (message : LinkMsg) → is_served node message ≡ false → (node_takes node from message).state.home.held ≡ node.home.held
  unfolding taken_up
  home_stays Up closed = passed (talks node (up_step node.flows))
  home_stays End closed = passed (talks node (end_step node.flows))
  home_stays (Line line) closed = passed (line_by node (response_in line))
  home_stays (Ask ask) closed = ask_stays ask (is_of_messages ask.op) (name_kind ask.op) refl refl closed
  home_stays (Answer answer) closed = refl

-- ---- a message of the master: the content of each mailbox

module _ (master : Master) (name : List ℕ) (node : BackNode) (up down : List LinkMsg) (given : Given) (message : LinkMsg)
    (talk : HasTalk master name node up (message ∷ down) given) (first : IsFirst response_message message down talk.downs) where
  abbrev it : Tag × MResponse
  it = first.it

  mine : is_my_master node master.me ≡ true
  mine = ap (λ (m : List ℕ). pointwise nat_eq master.me m) talk.each.its_master ∙ same_name master.me

  read : response_in (text_of it.0 it.1) ≡ Some it
  read = response_read it (subst (AllByRecursion HasResponseTexts) first.are talk.written.responses).0

  heard_is : node_takes node master.me message ≡ done_by (talks node (heard_step node.flows node.home.held it.0 it.1))
  unfolding taken_up
  heard_is =
      ap (λ (m : LinkMsg). node_takes node master.me m) first.is
      ∙ ap (λ (t : Bool). done_by (cond t (line_by node (response_in (text_of it.0 it.1))) (passed_over node))) mine
      ∙ ap (λ (r : Option (Tag × MResponse)). done_by (line_by node r)) read

  held_is : (node_takes node master.me message).state.home.held ≡ held_with node.home.held (heard_step node.flows node.home.held it.0 it.1).entry
  held_is = ap (λ (done : BackActed). done.state.home.held) heard_is ∙ with_one node.home (heard_step node.flows node.home.held it.0 it.1).entry

  pub content_left : (n : Mailbox) (acl : List ℕ) → acl_at master.table name n ≡ Some acl
      → content_in (in_names (node_takes node master.me message).state.home.held n) ≡ content_in (in_names node.home.held n)
  content_left n acl at =
      ap (λ (held : Names). content_in (in_names held n)) held_is
      ∙ hears_leave (link_of master node talk.ups talk.downs) it first.more talk.holds.names talk.holds.contents first.are n acl
      (subst (λ (b : Server). acl_at master.table b n ≡ Some acl) (sym talk.each.named) at)

pub contents_left : (master : Master) (name : List ℕ) (node : BackNode) (up down : List LinkMsg) (given : Given) (message : LinkMsg)
    → HasTalk master name node up (message ∷ down) given → (n : Mailbox) (acl : List ℕ) → acl_at master.table name n ≡ Some acl
    → content_in (in_names (node_takes node master.me message).state.home.held n) ≡ content_in (in_names node.home.held n)
contents_left master name node up down given message talk =
    content_left master name node up down given message talk (first_of response_message message down talk.downs talk.written.down_is)
