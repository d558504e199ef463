-- The master takes the NOOP of a command, or the line of its flow: where the command is then.
use Rattle.std.proofs.Common.{◌≡◌, ◌≢◌, ◌⊎◌, inl, inr, ℕ, Bool, false, cond, List, [], ◌∷◌, ◌++◌, Option, None, Some, refl, sym, ap, subst, ◌∙◌, append-nil, arith}
use Rattle.std.specs.Ordering.{nat_cmp}
use Rattle.std.specs.Cmp.Lexicographic.{slice_cmp}
use Rattle.feed_core.specs.declared.replica.Replica.{Replica}
use Rattle.feed_links.specs.Lines.{messages_to}
use Rattle.feed_links.specs.OneFeed.{IsFed}
use Rattle.feed_links.proofs.Names.{other_name}
use Rattle.front_core.proofs.OneConnection.Places.{IsPlaced, about, about_command, is_below, is_over, line_on, of_connection, sent_alone}
use Rattle.link_msg.specs.declared.counts.Counts.{Counts}
use Rattle.link_msg.specs.declared.counts.Counts.TheVariants.{IfAnswered}
use Rattle.link_msg.specs.declared.message.LinkMsg.{LinkMsg}
use Rattle.link_msg.specs.declared.out.Out.{Out}
use Rattle.link_msg.specs.declared.out.Out.TheVariants.{Link, Mark}
use Rattle.link_queue.specs.Links.{Links, on_link, sent}
use Rattle.many_links.specs.Murder.{Murder, put_all, put_out, taken}
use Rattle.master_core.specs.Linked.{node_says}
use Rattle.master_core.specs.Outside.{Stepped}
use Rattle.master_core.specs.Replies.{done}
use Rattle.master_core.specs.Step.{mark_of}
use Rattle.mupdate_codec.specs.declared.command.MResponse.TheVariants as response
use Rattle.mupdate_codec.specs.Asks.{line_ask}
use Rattle.mupdate_codec.proofs.AsksLaw.{ask_again}
use Rattle.mupdate_codec.proofs.LineAsks.{own_command, own_response}
use Rattle.mur_base.specs.declared.home.Location.{Location}
use Rattle.mur_base.specs.declared.point.AskId.{AskId}
use Rattle.mur_base.proofs.MapLaws.{names_apart, same_or_other}
use Rattle.mur_model.specs.declared.store.Store.{Store}
use Rattle.back_links.specs.OneTalk.{HasTalk}
use Rattle.back_node.specs.declared.node.BackNode.{BackNode}
use Rattle.name_commands.specs.MasterSteps.{IsTaken, flow_reply}
use Rattle.name_commands.specs.Places.{NamePlace, TalkShows, answer_message, flow_message, stage_command, NamePlace as name_at}
use Rattle.name_commands.specs.Whose.{Whose, is_of_connection}
use Rattle.name_commands.proofs.MasterLaw.{line_taken, line_taken_alone}
use Rattle.name_flows.specs.declared.flow.Flow.{Flow}
use Rattle.name_links.specs.Serials.{Given}
use Rattle.route_links.specs.Answered.{noop_of, ok_line, ok_of}
use Rattle.route_links.specs.Barriers.{IsBarrierAt, Place as barrier}
use Rattle.route_links.proofs.AnsweredLaw.{noop_is_answered}
use Rattle.route_links.proofs.BarrierLaw.{others_are_taken, takes_noop}
use Rattle.cluster_core.proofs.Places.FrontSends.{about_noop, noop_on}
use Rattle.cluster_core.proofs.Commands.InPlace.{ShowEach}
use Rattle.cluster_core.proofs.Commands.Place.{Place, at_backend, carried, its_message, Place as place}
use Rattle.cluster_core.proofs.Steps.Heads.{are_same, here_at, its_first}
use Rattle.cluster_core.proofs.Steps.MasterLinks.{barrier_behind, downs_taken, shows_behind, up_else, up_first}
use Rattle.cluster_core.proofs.Steps.MasterSteps.{HasAnswered, IsFedFront, IsInBehind, LineIsTaken, MasterTakes, NoopIsTaken}
use Rattle.cluster_core.proofs.Steps.Murders.{IsIn, at_other, at_own, its_me, no_front, shows_on}
use Rattle.cluster_core.proofs.Steps.Outs.{own_it, puts_one}

-- ---- the NOOP

module _ (murder : Murder) (given : Given) (store : Store) (front : List ℕ) (replica : Replica) (id : AskId)
    (takes : MasterTakes murder given store front (noop_of id)) (fed : IsFedFront murder front replica id) (whole : fed.broken ≡ false)
    (is : IsIn murder front replica id (place.is_barred barrier.asked)) where
  abbrev me : List ℕ
  me = murder.master.me

  abbrev left : Links LinkMsg
  left = taken murder front me

  abbrev next : Stepped
  next = node_says murder.master front (noop_of id)

  abbrev answers : List Out
  answers = Link front (ok_of id) ∷ Mark id IfAnswered ∷ []

  outs_are : next.outs ≡ answers
  outs_are = ap (λ (s : Stepped). s.outs) (noop_is_answered murder.master front id fed.numbered)

  ok_tells : line_ask (ok_line id) ≡ Some id
  ok_tells = own_response id (response.Ok done) ∙ ask_again id fed.numbered.0 fed.numbered.1

  none_left : IsPlaced id.command (of_connection id.conn) left None
  none_left =
      (its_first murder front replica id (place.is_barred barrier.asked) front me (noop_of id) takes.first (about_noop id fed.numbered)
      (noop_on id fed.numbered) is).1

  ok_placed : IsPlaced id.command (of_connection id.conn) (put_all me left next.outs) (carried me front (ok_of id))
  unfolding put_all put_out
  ok_placed =
      subst (λ (outs : List Out). IsPlaced id.command (of_connection id.conn) (put_all me left outs) (carried me front (ok_of id))) (sym outs_are)
      (sent_alone id.command left me front (ok_of id) (of_connection id.conn) (ap about_command ok_tells)
      (line_on id.command (ok_line id) id ok_tells (omega arith)) none_left)

  -- no backend is told of it
  nothing_to : (q : List ℕ) → front ≢ q → messages_to q next.outs ≡ []
  nothing_to q ne =
      ap (λ (outs : List Out). messages_to q outs) outs_are ∙ ap (λ (b : Bool). cond b (ok_of id ∷ []) [] ++ []) (other_name front q ne)

  answered_shown : ShowEach me murder.nodes (put_all me left next.outs) id.conn (place.is_barred (barrier.answered murder.master.table))
  answered_shown =
      shows_behind murder left next (downs_taken murder front) given store id.conn (place.is_barred (barrier.answered murder.master.table)) takes.holds
      (λ q its at. (let ne = no_front murder front q its fed.is_front at in
      shows_on (is_of_connection id.conn) its (on_link murder.links q me) (on_link murder.links me q) (on_link left q me)
      (on_link murder.links me q ++ messages_to q next.outs) name_at.nowhere name_at.nowhere (up_else murder front q (λ e. ne (sym e)))
      (ap (λ (l : List LinkMsg). on_link murder.links me q ++ l) (nothing_to q ne) ∙ append-nil (on_link murder.links me q)) refl (is.shows q its at)))

  answered_barrier : IsBarrierAt id (barrier.answered murder.master.table) (on_link left front me)
      (on_link murder.links me front ++ messages_to front next.outs) replica
  answered_barrier =
      subst (λ (up : List LinkMsg). IsBarrierAt id (barrier.answered murder.master.table) up (on_link murder.links me front ++ messages_to front next.outs) replica)
      (sym (up_first murder front (noop_of id) takes.first))
      (takes_noop id barrier.asked murder.master front fed.reached takes.first.rest (on_link murder.links me front) replica fed.numbered
      (subst (λ (b : Bool). IsFed murder.master front b fed.reached (noop_of id ∷ takes.first.rest) (on_link murder.links me front) replica) whole
      (subst (λ (up : List LinkMsg). IsFed murder.master front fed.broken fed.reached up (on_link murder.links me front) replica) takes.first.first fed.fed))
      (subst (λ (up : List LinkMsg). IsBarrierAt id barrier.asked up (on_link murder.links me front) replica) takes.first.first is.barrier)).1

  pub noop_behind : IsInBehind murder left next front replica id (place.is_barred (barrier.answered murder.master.table))
  noop_behind = record {
    message = ok_placed;
    shows = answered_shown;
    barrier = barrier_behind murder left next (downs_taken murder front) front replica id (place.is_barred (barrier.answered murder.master.table))
        fed.is_front.no_master answered_barrier;
    there = tt;
  }

pub noop_is_taken : NoopIsTaken
noop_is_taken murder given store front replica id takes fed whole is = noop_behind murder given store front replica id takes fed whole is

-- ---- the line of a flow

mark_puts : (from : List ℕ) (links : Links LinkMsg) (id : AskId) (counts : Option Counts) → put_all from links (mark_of (Some id) counts) ≡ links
unfolding put_all put_out
mark_puts from links id None = refl
mark_puts from links id (Some counts) = refl

module _ (murder : Murder) (given : Given) (store : Store) (name : List ℕ) (node : BackNode) (message : LinkMsg) (front : List ℕ) (replica : Replica)
    (id : AskId) (at : Location) (mailbox : List ℕ) (flow : Flow) (takes : MasterTakes murder given store name message) (there : murder.nodes name ≡ Some node)
    (fed : IsFedFront murder front replica id) (own : about message ≡ of_connection id.conn) (on : is_over id.command message ≡ false) (server : at.server ≡ name)
    (is : IsIn murder front replica id (place.is_at at (name_at.sends mailbox flow))) where
  abbrev lord : List ℕ
  lord = murder.master.me

  abbrev here : Place
  here = place.is_at at (name_at.sends mailbox flow)

  abbrev its : Whose
  its = is_of_connection id.conn

  abbrev links_left : Links LinkMsg
  links_left = taken murder name lord

  abbrev says : Stepped
  says = node_says murder.master name message

  abbrev down : List LinkMsg
  down = on_link murder.links lord name

  at_is : at ≡ node.flows.me
  at_is = its_me murder name node there at (name_at.sends mailbox flow) server is.there

  talk : HasTalk murder.master name node (message ∷ takes.first.rest) down given
  talk = subst (λ (up : List LinkMsg). HasTalk murder.master name node up down given) takes.first.first (takes.holds.each name node there).talk

  shown : TalkShows its node (message ∷ takes.first.rest) down (name_at.sends mailbox flow)
  shown = subst (λ (up : List LinkMsg). TalkShows its node up down (name_at.sends mailbox flow)) takes.first.first
      (subst (λ (p : NamePlace). TalkShows its node (on_link murder.links name lord) down p) (at_own at name (name_at.sends mailbox flow) server)
      (is.shows name node there))

  step : IsTaken its murder.master name node message takes.first.rest down mailbox flow
  step = line_taken its murder.master name node takes.first.rest down given message mailbox flow talk takes.nobodys (own_it id.conn message own) shown

  abbrev later : Place
  later = place.is_at at (name_at.hears mailbox flow step.it)

  head : (its_message lord front id here ≡ here_at name lord message) × IsPlaced id.command (of_connection id.conn) links_left None
  head = its_first murder front replica id here name lord message takes.first own on is

  line_left : IsPlaced id.command (of_connection id.conn) links_left None
  line_left = head.1

  -- the response is of the same command as the line
  response_on : is_over id.command (answer_message flow step.it) ≡ false
  unfolding is_over
  response_on =
      ap (is_below id.command) (own_response flow.ask step.it ∙ sym (own_command flow.ask (stage_command at mailbox flow.stage)))
      ∙ ap (is_over id.command) (are_same at.server lord name lord (flow_message at mailbox flow) message head.0).message_is ∙ on

  response_placed : IsPlaced id.command (of_connection id.conn) (put_all lord links_left says.outs) (carried lord at.server (answer_message flow step.it))
  response_placed =
      subst (λ (to : List ℕ). IsPlaced id.command (of_connection id.conn) (put_all lord links_left says.outs) (carried lord to (answer_message flow step.it)))
      (sym server)
      (puts_one id.conn lord links_left says.outs id.command name (answer_message flow step.it)
      (mark_of (Some flow.ask) (flow_reply murder.master.table name node.flows.me mailbox flow).counts) step.outs
      (mark_puts lord (sent links_left lord name (answer_message flow step.it)) flow.ask (flow_reply murder.master.table name node.flows.me mailbox flow).counts)
      response_on line_left)

  -- at its backend it is answered, and no other hears of it
  shown_own : TalkShows its node (on_link links_left name lord) (down ++ messages_to name says.outs) (at_backend name later)
  shown_own =
      shows_on its node takes.first.rest (down ++ messages_to name says.outs) (on_link links_left name lord) (down ++ messages_to name says.outs)
      (name_at.hears mailbox flow step.it) (at_backend name later) (up_first murder name message takes.first) refl
      (at_own at name (name_at.hears mailbox flow step.it) server) step.placed

  shown_other : (q : List ℕ) (other : BackNode) → q ≢ name → murder.nodes q ≡ Some other
      → TalkShows its other (on_link links_left q lord) (on_link murder.links lord q ++ messages_to q says.outs) (at_backend q later)
  shown_other q other ne found =
      shows_on its other (on_link murder.links q lord) (on_link murder.links lord q ++ messages_to q says.outs) (on_link links_left q lord)
      (on_link murder.links lord q ++ messages_to q says.outs) name_at.nowhere (at_backend q later) (up_else murder name q ne) refl
      (at_other at name q (name_at.hears mailbox flow step.it) server ne)
      (line_taken_alone its murder.master name q node other takes.first.rest down (on_link murder.links q lord) (on_link murder.links lord q) given message
      mailbox flow ne talk takes.nobodys (own_it id.conn message own) shown
      (subst (λ (p : NamePlace). TalkShows its other (on_link murder.links q lord) (on_link murder.links lord q) p)
      (at_other at name q (name_at.sends mailbox flow) server ne) (is.shows q other found)))

  shown_each : (q : List ℕ) (other : BackNode) → murder.nodes q ≡ Some other
      → TalkShows its other (on_link links_left q lord) (on_link murder.links lord q ++ messages_to q says.outs) (at_backend q later)
  shown_each q other found = by (same_or_other (slice_cmp nat_cmp) names_apart q name)
    where
      by : (q ≡ name) ⊎ (q ≢ name) → TalkShows its other (on_link links_left q lord) (on_link murder.links lord q ++ messages_to q says.outs) (at_backend q later)
      by (inl same) =
          let one : Some node ≡ Some other = sym there ∙ ap murder.nodes (sym same) ∙ found in
          let alike : node ≡ other = cc in
          subst (λ n. TalkShows its other (on_link links_left n lord) (on_link murder.links lord n ++ messages_to n says.outs) (at_backend n later)) (sym same)
          (subst (λ (n : BackNode). TalkShows its n (on_link links_left name lord) (down ++ messages_to name says.outs) (at_backend name later)) alike shown_own)
      by (inr ne) = shown_other q other ne found

  line_barrier : IsBarrierAt id barrier.nowhere (on_link links_left front lord) (on_link murder.links lord front ++ messages_to front says.outs) replica
  line_barrier =
      let ne = no_front murder front name node fed.is_front there in
      subst (λ (up : List LinkMsg). IsBarrierAt id barrier.nowhere up (on_link murder.links lord front ++ messages_to front says.outs) replica)
      (sym (up_else murder name front ne))
      (others_are_taken id barrier.nowhere murder.master front name fed.broken fed.reached (on_link murder.links front lord) (on_link murder.links lord front)
      message replica fed.streams (λ e. ne (sym e)) fed.fed is.barrier)

  line_behind : IsInBehind murder links_left says front replica id later
  line_behind = record {
    message = response_placed;
    shows = shows_behind murder links_left says (downs_taken murder name) given store id.conn later takes.holds shown_each;
    barrier = barrier_behind murder links_left says (downs_taken murder name) front replica id later fed.is_front.no_master line_barrier;
    there = is.there;
  }

  pub has_answered : HasAnswered murder name node message takes.first.rest front replica id mailbox flow
  has_answered = record {
    step = step;
    placed = subst (λ (m : Location). IsInBehind murder links_left says front replica id (place.is_at m (name_at.hears mailbox flow step.it))) at_is line_behind;
  }

pub line_is_taken : LineIsTaken
line_is_taken murder given store name node message front replica id at mailbox flow takes there fed own on server is = (
  at_is murder given store name node message front replica id at mailbox flow takes there fed own on server is,
  has_answered murder given store name node message front replica id at mailbox flow takes there fed own on server is,
)
