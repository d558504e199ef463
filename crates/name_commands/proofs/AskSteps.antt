-- A message of a node that isn't the master comes to the backend.
use Rattle.std.proofs.Common.{◌≡◌, ◌≢◌, ℕ, Bool, true, false, cond, List, [], ◌∷◌, ◌++◌, filter, Option, None, Some, refl, sym, ap, subst, ◌∙◌, append-nil}
use Rattle.backend_core.specs.declared.backend.Backend.{Backend}
use Rattle.backend_core.specs.declared.op_plan.OpPlan.{OpPlan}
use Rattle.backend_core.specs.AskPlan.{ask_plan}
use Rattle.backend_core.specs.OpPlan.{told_after}
use Rattle.backend_core.specs.Plan.{answer_outs, back_plan, owed_outs, owes}
use Rattle.link_msg.specs.declared.ask.FrontAsk.{FrontAsk}
use Rattle.link_msg.specs.declared.message.LinkMsg.{LinkMsg}
use Rattle.link_msg.specs.declared.message.LinkMsg.TheVariants.{Up, End, Line, Ask, Answer}
use Rattle.link_msg.specs.declared.out.Out.TheVariants.{Link, Mark}
use Rattle.master_core.specs.declared.master.Master.{Master}
use Rattle.mupdate_codec.specs.Whole.{response_in}
use Rattle.name_flows.specs.declared.ask.AskKind.{AskKind}
use Rattle.name_flows.specs.declared.ask.NameAsk.{NameAsk}
use Rattle.name_flows.specs.Asked.{asked_step}
use Rattle.name_flows.specs.Link.{end_step}
use Rattle.name_flows.specs.Listing.{up_step}
use Rattle.back_node.specs.declared.node.BackNode.{BackNode}
use Rattle.back_node.specs.Acted.{BackActed}
use Rattle.back_node.specs.Node.{is_my_master}
use Rattle.back_node.specs.Takes.{UpToEntry, ask_by, line_by, name_ask, name_kind, node_takes, passed_over, serves, talks, taken_up}
use Rattle.back_node.proofs.AtHome.{done_by}
use Rattle.back_node.proofs.Owed.{AnswersOnly, ask_answers}
use Rattle.feed_links.specs.Lines.{messages_to}
use Rattle.feed_links.proofs.Names.{other_name}
use Rattle.name_links.specs.Serials.{Given}
use Rattle.back_links.specs.BackEvents.{fits_by, IsFitting}
use Rattle.back_links.specs.OneTalk.{HasTalk}
use Rattle.back_links.proofs.Queues.{owed_sends}
use Rattle.back_links.proofs.StepsSaid.{StepSaid, asked_said}
use Rattle.back_links.proofs.Texts.{ask_spelled}
use Rattle.name_commands.specs.BackSteps.{AskMoves, MessagesLeave, NoneAtFirst, OtherAsksLeave}
use Rattle.name_commands.specs.Moves.{asked_move, LeavesCommand, MovesCommand}
use Rattle.name_commands.specs.Places.{NamePlace, nowhere, TalkShows}
use Rattle.name_commands.specs.Whose.{Whose, asks_for, is_own_message, is_own_out}
use Rattle.name_commands.proofs.AskLaw.{asked_leaves, asked_makes}
use Rattle.name_commands.proofs.Own.{passed}
use Rattle.name_commands.proofs.Sends.{is_moved, leaves_it}

pub none_at_first : NoneAtFirst
none_at_first whose me master = record { waiting = refl; running = λ name. refl; sent = refl; numbered = tt }

module _ (whose : Whose) (master : Master) (name : List ℕ) (node : BackNode) (up down : List LinkMsg) (given : Given) (from : List ℕ)
    (talk : HasTalk master name node up down given) (ne : from ≢ master.me) where
  -- ---- CREATE and DELETE

  module _ (ask : FrontAsk) (kind : AskKind) (fits : fits_by (Some kind) ask) where
    abbrev it : NameAsk
    it = name_ask from ask kind

    named_said : StepSaid node.flows.me node.home.held (asked_step node.flows node.home.held it)
    named_said = asked_said node.flows node.home.held talk.said it (ask_spelled it fits.0 fits.1 fits.2)

    named_answers : AnswersOnly (λ front. front ≢ master.me) node.flows (asked_step node.flows node.home.held it)
    named_answers = ask_answers (λ front. front ≢ master.me) node.flows node.home.held it ne talk.each.owes

    own_named : whose ask.id ≡ true → TalkShows whose node up down nowhere
        → MovesCommand whose master.me node (done_by (talks node (asked_step node.flows node.home.held it))) up down (asked_move node.flows node.home.held it)
    own_named own placed =
        is_moved whose master name node (asked_step node.flows node.home.held it) talk.each talk.said named_said named_answers up down
        (asked_move node.flows node.home.held it) (asked_makes whose node.flows node.home.held it (fits.0, fits.1) own placed.at) placed.up_is placed.down_is

    other_named : (place : NamePlace) → whose ask.id ≡ false → TalkShows whose node up down place
        → LeavesCommand whose master.me (done_by (talks node (asked_step node.flows node.home.held it))) up down place
    other_named place other placed =
        leaves_it whose master name node (asked_step node.flows node.home.held it) talk.each talk.said named_said named_answers up down place
        (asked_leaves whose node.flows node.home.held it (fits.0, fits.1) other) placed.at placed.up_is placed.down_is placed.known

  -- ---- anything else

  nothing_comes : (place : NamePlace) → TalkShows whose node up down place → LeavesCommand whose master.me (done_by (passed_over node)) up down place
  nothing_comes place placed = record {
    placed = record {
      at = placed.at;
      up_is = ap (λ (l : List LinkMsg). filter (is_own_message whose) l) (append-nil up) ∙ placed.up_is;
      down_is = placed.down_is;
      known = placed.known;
    };
    outs = refl;
  }

  not_its_master : is_my_master node from ≡ false
  not_its_master = other_name from node.flows.master (λ e. ne (e ∙ talk.each.its_master))

  passed_by : (place : NamePlace) → TalkShows whose node up down place → (it : UpToEntry)
      → LeavesCommand whose master.me (done_by (cond (is_my_master node from) it (passed_over node))) up down place
  passed_by place placed it =
      subst (λ (mine : Bool). LeavesCommand whose master.me (done_by (cond mine it (passed_over node))) up down place) (sym not_its_master)
      (nothing_comes place placed)

  module _ (ask : FrontAsk) where
    abbrev served : BackActed
    served = done_by (serves node (back_plan node.home from ask))

    messages_placed : (place : NamePlace) → TalkShows whose node up down place
        → TalkShows whose served.state (up ++ messages_to master.me served.outs) down place
    messages_placed place placed =
        let silent : messages_to master.me served.outs ≡ [] = owed_sends master.me from ask.id served.state.home (ask_plan node.home ask) ne in
        record {
          at = placed.at;
          up_is = ap (λ (l : List LinkMsg). filter (is_own_message whose) (up ++ l)) silent
              ∙ ap (λ (l : List LinkMsg). filter (is_own_message whose) l) (append-nil up) ∙ placed.up_is;
          down_is = placed.down_is;
          known = placed.known;
        }

    others_owed : whose ask.id ≡ false → (home : Backend) (plan : Option OpPlan) → filter (is_own_out whose) (owed_outs home (owes from ask.id plan).owed) ≡ []
    unfolding answer_outs
    others_owed other home None = refl
    others_owed other home (Some plan) =
        passed (is_own_out whose) (Link from (Answer (record { id = ask.id; body = (told_after home plan.telling).body })))
        (Mark ask.id (told_after home plan.telling).counts ∷ []) other
        ∙ passed (is_own_out whose) (Mark ask.id (told_after home plan.telling).counts) [] other

    messages_left : (place : NamePlace) → whose ask.id ≡ false → TalkShows whose node up down place → LeavesCommand whose master.me served up down place
    messages_left place other placed =
        record { placed = messages_placed place placed; outs = others_owed other served.state.home (ask_plan node.home ask) }

    other_asked : (place : NamePlace) → whose ask.id ≡ false → TalkShows whose node up down place → (kind : Option AskKind) → fits_by kind ask
        → LeavesCommand whose master.me (done_by (ask_by node from ask kind)) up down place
    other_asked place other placed (Some kind) fits = other_named ask kind fits place other placed
    other_asked place other placed None fits = messages_left place other placed

  other_comes : (message : LinkMsg) (place : NamePlace) → IsFitting message → asks_for whose message ≡ false → TalkShows whose node up down place
      → LeavesCommand whose master.me (node_takes node from message) up down place
  unfolding taken_up
  other_comes Up place fits other placed = passed_by place placed (talks node (up_step node.flows))
  other_comes End place fits other placed = passed_by place placed (talks node (end_step node.flows))
  other_comes (Line line) place fits other placed = passed_by place placed (line_by node (response_in line))
  other_comes (Ask ask) place fits other placed = other_asked ask place other placed (name_kind ask.op) fits
  other_comes (Answer answer) place fits other placed = nothing_comes place placed

named_is : (node : BackNode) (from : List ℕ) (ask : FrontAsk) (kind : Option AskKind) → name_kind ask.op ≡ kind
    → node_takes node from (Ask ask) ≡ done_by (ask_by node from ask kind)
unfolding taken_up
named_is node from ask kind is = ap (λ (k : Option AskKind). done_by (ask_by node from ask k)) is

pub ask_moves : AskMoves
ask_moves whose master name node up down given from ask kind talk ne fits is own placed =
    subst (λ (next : BackActed). MovesCommand whose master.me node next up down (asked_move node.flows node.home.held (name_ask from ask kind)))
    (sym (named_is node from ask (Some kind) is))
    (own_named whose master name node up down given from talk ne ask kind (subst (λ (k : Option AskKind). fits_by k ask) is fits) own placed)

pub other_asks_leave : OtherAsksLeave
other_asks_leave whose master name node up down given from message place talk ne fits other placed =
    other_comes whose master name node up down given from talk ne message place fits other placed

pub messages_leave : MessagesLeave
messages_leave whose master name node up down given from ask place talk ne is placed =
    subst (λ (next : BackActed). TalkShows whose next.state (up ++ messages_to master.me next.outs) down place) (sym (named_is node from ask None is))
    (messages_placed whose master name node up down given from talk ne ask place placed)
