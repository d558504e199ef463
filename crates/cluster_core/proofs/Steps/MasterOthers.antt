-- A step of the master leaves each command that it isn't about, and one of a connection where the line is of a command before it, which is over.
use Rattle.std.proofs.Common.{◌≡◌, ◌≢◌, ◌⊎◌, inl, inr, ℕ, Bool, true, false, All, List, [], ◌∷◌, ◌++◌, filter, Option, None, refl, sym, ap, subst, ◌∙◌, append-nil}
use Rattle.std.specs.Ordering.{nat_cmp}
use Rattle.std.specs.Cmp.Lexicographic.{slice_cmp}
use Rattle.std.proofs.lemmas.List.Elements.{All-cons, All-head, All-nil, All-tail}
use Rattle.feed_core.specs.declared.replica.Replica.{Replica}
use Rattle.feed_links.specs.Lines.{messages_to}
use Rattle.feed_links.specs.OneFeed.{IsFed}
use Rattle.front_core.proofs.OneConnection.Places.{About, IsPlaced, about, about_command, is_about, is_below, is_over, nobody_whom, not_about, of_connection, others_taken, over_about, over_taken}
use Rattle.link_msg.specs.declared.message.LinkMsg.{LinkMsg}
use Rattle.link_msg.specs.declared.message.LinkMsg.TheVariants.{Up, End, Line, Ask, Answer}
use Rattle.link_msg.specs.declared.out.Out.{Out}
use Rattle.link_msg.specs.declared.out.Out.TheVariants.{Client, Close, Link, Mark, Told as tell}
use Rattle.link_queue.proofs.Placed.{Carried, another_sent}
use Rattle.link_queue.specs.Links.{Links, on_link}
use Rattle.many_links.specs.Murder.{Murder, put_all, put_out, taken}
use Rattle.many_links.proofs.FrontOuts.{AreItsOuts, others_unsent}
use Rattle.master_core.specs.Linked.{node_says}
use Rattle.master_core.specs.Outside.{Stepped}
use Rattle.master_core.specs.Whose.{IsOf, message_ask}
use Rattle.master_core.proofs.WhoseLaw.{message_says}
use Rattle.mupdate_codec.specs.Asks.{line_ask}
use Rattle.mur_base.specs.declared.point.AskId.{AskId}
use Rattle.mur_base.proofs.MapLaws.{names_apart, same_or_other}
use Rattle.mur_model.specs.declared.store.Store.{Store}
use Rattle.name_commands.specs.Places.{TalkShows}
use Rattle.name_commands.specs.Whose.{is_of_connection, is_own_out}
use Rattle.name_commands.proofs.Marks.{says_others}
use Rattle.name_commands.proofs.MasterLaw.{other_lines_pass, other_nodes_pass}
use Rattle.name_links.specs.Serials.{Given}
use Rattle.route_links.specs.Answered.{IsNumbered, noop_of}
use Rattle.route_links.specs.Barriers.{IsBarrierAt}
use Rattle.route_links.proofs.BarrierLaw.{others_are_taken, takes as takes_other}
use Rattle.cluster_core.proofs.Places.FrontSends.{about_noop, noop_on}
use Rattle.cluster_core.proofs.Commands.InPlace.{ShowEach}
use Rattle.cluster_core.proofs.Commands.Place.{Place, at_backend, at_barrier, its_message, Place as place}
use Rattle.cluster_core.proofs.Steps.MasterLinks.{barrier_behind, downs_taken, shows_behind, up_else, up_first}
use Rattle.cluster_core.proofs.Steps.MasterSteps.{ComesWhole, IsFedFront, LinesLeave, LinesLeaveNone, MasterTakes, OverLeaves}
use Rattle.cluster_core.proofs.Steps.Murders.{IsFront, IsIn, no_front, shows_on}
use Rattle.cluster_core.proofs.Steps.Outs.{not_about_it, puts_none}

-- ---- what is of a command that is over

-- it isn't the NOOP of this one
pub over_other : (id : AskId) (message : LinkMsg) → IsNumbered id → is_over id.command message ≡ true → message ≢ noop_of id
over_other id message numbered over e =
    let both : true ≡ false = sym over ∙ ap (is_over id.command) e ∙ noop_on id numbered in cc

-- a message that isn't about them from this number on, or a mark
abbrev IsNotAbout : ℕ → About → Out → Type 0
IsNotAbout first whom (Link to message) = is_about first whom message ≡ false
IsNotAbout first whom out = Unit {0}

puts_over : (first : ℕ) (whom : About) (from : List ℕ) (links : Links LinkMsg) (outs : List Out) (found : Option (Carried LinkMsg)) → All (IsNotAbout first whom) outs
    → IsPlaced first whom links found → IsPlaced first whom (put_all from links outs) found
unfolding put_all put_out
puts_over first whom from links [] found are placed = placed
puts_over first whom from links (out ∷ outs) found are placed =
    puts_over first whom from (put_out from links out) outs found (All-tail (IsNotAbout first whom) out outs are)
    (by out (All-head (IsNotAbout first whom) out outs are))
  where
    by : (one : Out) → IsNotAbout first whom one → IsPlaced first whom (put_out from links one) found
    by (Link to message) other = another_sent (is_about first whom) links from to message found other placed
    by (Client conn bytes) other = placed
    by (Close conn) other = placed
    by (Mark id counts) other = placed
    by (tell id how) other = placed

-- a line of the same command is over too, and one of nobody is about nobody
same_over : (first : ℕ) (bytes other : List ℕ) → is_over first (Line bytes) ≡ true → line_ask other ≡ line_ask bytes → is_over first (Line other) ≡ true
unfolding is_over
same_over first bytes other over same = ap (is_below first) same ∙ over

over_out : (first conn : ℕ) (message : LinkMsg) (out : Out) → is_over first message ≡ true → IsOf (message_ask message) out → IsNotAbout first (of_connection conn) out
unfolding is_over
over_out first conn (Line bytes) (Link to (Line other)) over (inl same) =
    over_about first (of_connection conn) (Line other) (same_over first bytes other over same)
over_out first conn (Line bytes) (Link to (Line other)) over (inr none) =
    not_about first (of_connection conn) (Line other) (λ e. nobody_whom conn (sym (ap about_command none) ∙ e))
over_out first conn (Line bytes) (Link to Up) over of = absurd of
over_out first conn (Line bytes) (Link to End) over of = absurd of
over_out first conn (Line bytes) (Link to (Ask ask)) over of = absurd of
over_out first conn (Line bytes) (Link to (Answer answer)) over of = absurd of
over_out first conn (Line bytes) (Client other text) over of = tt
over_out first conn (Line bytes) (Close other) over of = tt
over_out first conn (Line bytes) (Mark id counts) over of = tt
over_out first conn (Line bytes) (tell id how) over of = tt
over_out first conn Up out over of = cc
over_out first conn End out over of = cc
over_out first conn (Ask ask) out over of = cc
over_out first conn (Answer answer) out over of = cc

over_outs : (first conn : ℕ) (message : LinkMsg) (outs : List Out) → is_over first message ≡ true → All (IsOf (message_ask message)) outs
    → All (IsNotAbout first (of_connection conn)) outs
over_outs first conn message [] over of = All-nil (IsNotAbout first (of_connection conn))
over_outs first conn message (out ∷ outs) over of =
    All-cons (IsNotAbout first (of_connection conn)) out outs (over_out first conn message out over (All-head (IsOf (message_ask message)) out outs of))
    (over_outs first conn message outs over (All-tail (IsOf (message_ask message)) out outs of))

-- ---- it takes a message

module _ (murder : Murder) (given : Given) (store : Store) (from : List ℕ) (message : LinkMsg) (takes : MasterTakes murder given store from message) where
  abbrev me : List ℕ
  me = murder.master.me

  abbrev left : Links LinkMsg
  left = taken murder from me

  abbrev next : Stepped
  next = node_says murder.master from message

  -- what is left on the link of a node: of the one whose message it is, and of another
  pub with_left : (q : List ℕ) (P : List LinkMsg → Type 0) → (q ≡ from → P takes.first.rest) → (q ≢ from → P (on_link murder.links q me)) → P (on_link left q me)
  with_left q P own else = by (same_or_other (slice_cmp nat_cmp) names_apart q from)
    where
      by : (q ≡ from) ⊎ (q ≢ from) → P (on_link left q me)
      by (inl same) = subst (λ (n : List ℕ). P (on_link left n me)) (sym same) (subst P (sym (up_first murder from message takes.first)) (own same))
      by (inr ne) = subst P (sym (up_else murder from q ne)) (else ne)

  pub first_up : (q : List ℕ) (P : List LinkMsg → Type 0) → q ≡ from → P (on_link murder.links q me) → P (message ∷ takes.first.rest)
  first_up q P same p = subst P (ap (λ n. on_link murder.links n me) same ∙ takes.first.first) p

  -- ---- of another connection

  module _ (conn : ℕ) (other : about message ≢ of_connection conn) where
    no_outs : filter (is_own_out (is_of_connection conn)) next.outs ≡ []
    no_outs = says_others (is_of_connection conn) murder.master from message takes.nobodys (not_about_it conn message other)

    others_placed : (first : ℕ) (found : Option (Carried LinkMsg)) → IsPlaced first (of_connection conn) murder.links found
        → IsPlaced first (of_connection conn) (put_all me left next.outs) found
    others_placed first found placed =
        puts_none conn me left next.outs first found no_outs
        (others_taken murder.links from me message takes.first.rest (of_connection conn) takes.first.first other first found placed)

    others_shown : (here : Place) → ShowEach me murder.nodes murder.links conn here → ShowEach me murder.nodes (put_all me left next.outs) conn here
    others_shown here shows =
        shows_behind murder left next (downs_taken murder from) given store conn here takes.holds
        (λ q its at. with_left q
        (λ up. TalkShows (is_of_connection conn) its up (on_link murder.links me q ++ messages_to q next.outs) (at_backend q here))
        (λ same. subst
        (λ n. TalkShows (is_of_connection conn) its takes.first.rest (on_link murder.links me q ++ messages_to q (node_says murder.master n message).outs)
        (at_backend q here)) same
        (other_lines_pass (is_of_connection conn) murder.master q its takes.first.rest (on_link murder.links me q) message (at_backend q here) takes.nobodys
        (not_about_it conn message other)
        (first_up q (λ up. TalkShows (is_of_connection conn) its up (on_link murder.links me q) (at_backend q here)) same (shows q its at))).placed)
        (λ ne. (other_nodes_pass (is_of_connection conn) murder.master q from its (on_link murder.links q me) (on_link murder.links me q) message
        (at_backend q here) takes.nobodys (not_about_it conn message other) (shows q its at)).placed))

  others_barred : (front : List ℕ) (replica : Replica) (id : AskId) (here : Place) (fed : IsFedFront murder front replica id) → ComesWhole from fed
      → message ≢ noop_of id → IsIn murder front replica id here
      → IsBarrierAt id (at_barrier here) (on_link left front me) (on_link murder.links me front ++ messages_to front next.outs) replica
  others_barred front replica id here fed whole other is =
      with_left front (λ up. IsBarrierAt id (at_barrier here) up (on_link murder.links me front ++ messages_to front next.outs) replica)
      (λ same. subst
      (λ n. IsBarrierAt id (at_barrier here) takes.first.rest (on_link murder.links me front ++ messages_to front (node_says murder.master n message).outs)
      replica) same
      (takes_other id (at_barrier here) murder.master front fed.reached takes.first.rest (on_link murder.links me front) message replica other
      (subst (λ (b : Bool). IsFed murder.master front b fed.reached (message ∷ takes.first.rest) (on_link murder.links me front) replica) (whole (sym same))
      (first_up front (λ up. IsFed murder.master front fed.broken fed.reached up (on_link murder.links me front) replica) same fed.fed))
      (first_up front (λ up. IsBarrierAt id (at_barrier here) up (on_link murder.links me front) replica) same is.barrier)))
      (λ ne. others_are_taken id (at_barrier here) murder.master front from fed.broken fed.reached (on_link murder.links front me) (on_link murder.links me front)
      message replica fed.streams (λ e. ne (sym e)) fed.fed is.barrier)

  -- ---- of a command of the connection that is over

  module _ (id : AskId) (its_front : IsFront murder from) (are : AreItsOuts from next.outs) (over : is_over id.command message ≡ true) where
    over_placed : (found : Option (Carried LinkMsg)) → IsPlaced id.command (of_connection id.conn) murder.links found
        → IsPlaced id.command (of_connection id.conn) (put_all me left next.outs) found
    over_placed found placed =
        puts_over id.command (of_connection id.conn) me left next.outs found
        (over_outs id.command id.conn message next.outs over (message_says murder.master from message takes.nobodys))
        (over_taken id.command murder.links from me message takes.first.rest (of_connection id.conn) found takes.first.first over placed)

    over_shown : (here : Place) → ShowEach me murder.nodes murder.links id.conn here → ShowEach me murder.nodes (put_all me left next.outs) id.conn here
    over_shown here shows =
        shows_behind murder left next (downs_taken murder from) given store id.conn here takes.holds
        (λ q its at. (let ne = no_front murder from q its its_front at in
        shows_on (is_of_connection id.conn) its (on_link murder.links q me) (on_link murder.links me q) (on_link left q me)
        (on_link murder.links me q ++ messages_to q next.outs) (at_backend q here) (at_backend q here) (up_else murder from q (λ e. ne (sym e)))
        (ap (λ (l : List LinkMsg). on_link murder.links me q ++ l) (others_unsent from q next.outs ne are) ∙ append-nil (on_link murder.links me q)) refl
        (shows q its at)))

pub lines_leave : LinesLeave
lines_leave murder given store from message front replica id here takes fed whole other is = record {
  placed = record {
    message = others_placed murder given store from message takes id.conn other id.command (its_message murder.master.me front id here) is.message;
    shows = others_shown murder given store from message takes id.conn other here is.shows;
    barrier = barrier_behind murder (taken murder from murder.master.me) (node_says murder.master from message) (downs_taken murder from) front replica id here
        fed.is_front.no_master
        (others_barred murder given store from message takes front replica id here fed whole (λ e. other (ap about e ∙ about_noop id fed.numbered)) is);
    there = is.there;
  };
  outs = no_outs murder given store from message takes id.conn other;
}

pub over_leaves : OverLeaves
over_leaves murder given store from message front replica id here takes fed whole its_front are over is = record {
  message = over_placed murder given store from message takes id its_front are over (its_message murder.master.me front id here) is.message;
  shows = over_shown murder given store from message takes id its_front are over here is.shows;
  barrier = barrier_behind murder (taken murder from murder.master.me) (node_says murder.master from message) (downs_taken murder from) front replica id here
      fed.is_front.no_master (others_barred murder given store from message takes front replica id here fed whole (over_other id message fed.numbered over) is);
  there = is.there;
}

pub lines_leave_none : LinesLeaveNone
lines_leave_none murder given store from message conn takes other is = record {
  placed = record {
    message = others_placed murder given store from message takes conn other 0 None is.message;
    shows = others_shown murder given store from message takes conn other place.nowhere is.shows;
  };
  outs = no_outs murder given store from message takes conn other;
}
