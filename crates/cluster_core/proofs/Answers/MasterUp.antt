-- A frontend is told that its link with the master came up: its replica is empty from then on, and it asks for the table. Nothing of a command is between the two
-- then, so each is where it was.
use Rattle.std.proofs.Common.{◌≡◌, ◌≢◌, inl, inr, ℕ, nat_eq, true, false, List, [], ◌∷◌, ◌++◌, None, Some, refl, sym, ◌∙◌, ap, subst}
use Rattle.std.proofs.Math.Logic.{⊎_elim}
use Rattle.std.proofs.lemmas.Cmp.{nat_list_eq_equiv}
use Rattle.std.proofs.lemmas.Option.{same_Some}
use Rattle.std.specs.Cmp.Lexicographic.{pointwise}
use Rattle.std.specs.List.{AllByRecursion}
use Rattle.feed_core.specs.Feed.{empty_replica}
use Rattle.feed_core.specs.Stream.{update_line}
use Rattle.feed_core.specs.declared.replica.Replica.{Replica}
use Rattle.feed_links.proofs.FeedLaw.{both, up_keeps_it}
use Rattle.feed_links.specs.OneFeed.{AreUpsOrEnds, IsFed, IsUpOrEnd}
use Rattle.front_core.proofs.OneConnection.Places.{IsPlaced, about, of_connection, of_nobody, others_sent, others_taken, update_nobodys}
use Rattle.front_core.proofs.UpsLaws.{up_comes}
use Rattle.front_core.specs.Front.{Stepped, deliver, up_from, with_up}
use Rattle.front_core.specs.Ups.{coming_up, is_up}
use Rattle.front_core.specs.declared.front.Front.{Front}
use Rattle.imap_talk.specs.Heard.{Heard}
use Rattle.link_msg.specs.declared.message.LinkMsg.{LinkMsg}
use Rattle.link_msg.specs.declared.message.LinkMsg.TheVariants.{Up, End, Line}
use Rattle.link_msg.specs.declared.out.Out.TheVariants.{Link as to_node}
use Rattle.link_queue.specs.Broken.{is_broken}
use Rattle.link_queue.specs.Links.{on_link}
use Rattle.many_links.proofs.Carried.{taken_else, taken_first}
use Rattle.many_links.specs.ManyHold.{ManyHold}
use Rattle.mur_base.specs.declared.point.AskId.{AskId}
use Rattle.mur_config.specs.declared.config.Config.{Config}
use Rattle.mur_model.specs.declared.store.Store.{Store}
use Rattle.node_step.specs.declared.input.NodeInput.TheVariants.{From}
use Rattle.route_links.proofs.Sent.{update_other}
use Rattle.route_links.specs.Answered.{noop_of, ok_of}
use Rattle.route_links.specs.Barriers.{AreOfOthers, IsBarrierAt, IsOfOther, Place as Barrier, Place as barrier}
use Rattle.cluster_core.specs.World.{carry, carry_all, front_at, home_at, master_of, taken_from_link}
use Rattle.cluster_core.specs.declared.world.World.{World}
use Rattle.cluster_core.proofs.Answers.Keeps.{frontend_of}
use Rattle.cluster_core.proofs.Answers.OtherMessages.{moved_keeps}
use Rattle.cluster_core.proofs.Answers.OwnFeed.{fed_as, moved_homes, own_feeds}
use Rattle.cluster_core.proofs.Commands.InPlace.{ShowEach}
use Rattle.cluster_core.proofs.Commands.Place.{Place, at_barrier, its_message, Place as place}
use Rattle.cluster_core.proofs.Commands.Standing.{Fixed}
use Rattle.cluster_core.proofs.Connections.ConnectionLaw.{IsInNoneOf, IsInPlaceOf}
use Rattle.cluster_core.proofs.Connections.KeepsLaw.{FeedsHold, KeepsLaw, KeepsOn, TellsBackends, fixed_of, murder_of}
use Rattle.cluster_core.proofs.Connections.Stays.{StaysInPlace}
use Rattle.cluster_core.proofs.Feeds.Backends.{knows_still}
use Rattle.cluster_core.proofs.Feeds.Many.{front_is_one, front_keeps_many, passing_many}
use Rattle.cluster_core.proofs.Nodes.AllCome.{all_come, front_all_come}
use Rattle.cluster_core.proofs.Nodes.Comes.{FrontMoved, front_moved, with_front}
use Rattle.cluster_core.proofs.Nodes.Stay.{same_nodes}
use Rattle.cluster_core.proofs.Places.FrontWorlds.{in_none_alike, moves_with, with_sent}
use Rattle.cluster_core.proofs.Places.Stays.{IsFrontend, barrier_alike, homes_sent, homes_taken, same_name_or, sent_else, sent_there, shows_alike}

-- ---- no line is among what tells of a link

pub in_middle : {X : Type 0} (P : X → Type 0) (before : List X) (x : X) (behind : List X) → AllByRecursion P (before ++ x ∷ behind) → P x
in_middle P [] x behind are = are.0
in_middle P (first ∷ before) x behind are = in_middle P before x behind are.1

no_line : (bytes : List ℕ) → IsUpOrEnd (Line bytes) → ⊥
no_line bytes is = ⊎_elim (λ (e : Line bytes ≡ Up). cc) (λ (e : Line bytes ≡ End). cc) is

ends_too : (messages : List LinkMsg) → AllByRecursion (λ message. message ≡ End) messages → AreUpsOrEnds messages
ends_too [] are = tt
ends_too (message ∷ messages) are = (inr are.0, ends_too messages are.1)

not_of_nobody : (conn : ℕ) → of_nobody ≢ of_connection conn
not_of_nobody conn e = cc

module _ (config : Config) (heard : ℕ → Heard) (world : World) (law : KeepsLaw config heard world) (to : List ℕ) (front : Front) (rest : List LinkMsg)
    (there : front_at world to ≡ Some front) (first : on_link world.links (master_of config) to ≡ Up ∷ rest) where
  abbrev fixed : Fixed
  fixed = fixed_of config

  abbrev me : List ℕ
  me = master_of config

  abbrev base : World
  base = taken_from_link world me to

  abbrev later : Front
  later = record front { replica = empty_replica; ups = coming_up front.ups me }

  abbrev stepped : Stepped
  stepped = record { front = later; outs = to_node me (Line update_line) ∷ [] }

  abbrev next : World
  next = with_front base to stepped

  -- its UPDATE is on its way, and the nodes are as they were
  abbrev asked : World
  asked = with_sent base to me (Line update_line)

  master_is : front.master ≡ me
  master_is = ((law.nodes).fronts to front there).master_is

  does : deliver front me Up ≡ stepped
  unfolding deliver up_from
  does =
      let same : pointwise nat_eq me front.master ≡ true = ap (pointwise nat_eq me) master_is ∙ nat_list_eq_equiv.refl me in
      ap (λ b. up_from b (with_up front me)) same
      ∙ ap (λ m. record { front = later; outs = to_node m (Line update_line) ∷ [] }) master_is

  frontend : IsFrontend me (home_at world) to
  frontend = frontend_of config heard world law to front there

  no_master : me ≢ to
  no_master e = frontend.no_master (sym e)

  moved : FrontMoved world to later next
  moved =
      let step = front_moved base to front stepped there in
      record { own = step.own; fronts = step.fronts; homes = step.homes; masters = step.masters }

  -- ---- what is between the two

  its_fed : (is_up front.ups me ≡ false) × (AreUpsOrEnds (on_link world.links to me) × (AllByRecursion (λ message. message ≡ End) rest
      × IsFed law.master to (is_broken world.broken me to) true (on_link world.links to me ++ Line update_line ∷ []) rest empty_replica))
  its_fed =
      up_keeps_it law.master to (is_broken world.broken me to) (is_up front.ups me) (on_link world.links to me) rest front.replica
      (subst (λ d. IsFed law.master to (is_broken world.broken me to) (is_up front.ups me) (on_link world.links to me) d front.replica) first
      ((law.feeds).each to front there).fed)

  up_is : on_link asked.links to me ≡ on_link world.links to me ++ Line update_line ∷ []
  up_is =
      sent_there base.links to me (Line update_line)
      ∙ ap (λ l. l ++ Line update_line ∷ []) (taken_else world.links me to to me (inl frontend.no_master))

  down_is : on_link asked.links me to ≡ rest
  down_is = sent_else base.links to me me to (Line update_line) (inl no_master) ∙ taken_first world.links me to Up rest first

  other_up : (any : List ℕ) → any ≢ to → on_link asked.links any me ≡ on_link world.links any me
  other_up any ne = sent_else base.links to me any me (Line update_line) (inl ne) ∙ taken_else world.links me to any me (inr no_master)

  other_down : (any : List ℕ) → any ≢ to → on_link asked.links me any ≡ on_link world.links me any
  other_down any ne = sent_else base.links to me me any (Line update_line) (inl no_master) ∙ taken_else world.links me to me any (inr ne)

  -- ---- each command is where it was

  update_apart : (conn : ℕ) → about (Line update_line) ≢ of_connection conn
  update_apart conn e = not_of_nobody conn (sym update_nobodys ∙ e)

  message_then : (id : AskId) (here : Place) (node : List ℕ) → IsPlaced id.command (of_connection id.conn) world.links (its_message me node id here)
      → IsPlaced id.command (of_connection id.conn) asked.links (its_message me node id here)
  message_then id here node is =
      others_sent base.links to me (Line update_line) (of_connection id.conn) (update_apart id.conn) id.command _
      (others_taken world.links me to Up rest (of_connection id.conn) first (not_of_nobody id.conn) id.command _ is)

  shows_then : (conn : ℕ) (here : Place) → ShowEach me (home_at world) world.links conn here → ShowEach me (home_at world) asked.links conn here
  shows_then conn here is =
      shows_alike me (home_at world) conn here base.links asked.links (homes_sent me (home_at world) base.links to me (Line update_line) frontend)
      (shows_alike me (home_at world) conn here world.links base.links (homes_taken me (home_at world) world.links me to frontend) is)

  -- of this frontend no barrier is asked or answered
  own_barrier : (id : AskId) (at : Barrier) → IsBarrierAt id at (on_link world.links to me) (on_link world.links me to) front.replica
      → IsBarrierAt id at (on_link asked.links to me) (on_link asked.links me to) empty_replica
  own_barrier id barrier.nowhere is = record {
    up_others = subst (AreOfOthers id) (sym up_is) (both (IsOfOther id) (on_link world.links to me) (Line update_line ∷ []) is.up_others (update_other id, tt));
    down_others = subst (AreOfOthers id) (sym down_is) (subst (AreOfOthers id) first is.down_others).1;
  }
  own_barrier id barrier.asked is =
      absurd (no_line _ (in_middle IsUpOrEnd is.before (noop_of id) is.behind (subst AreUpsOrEnds is.up_is its_fed.1.0)))
  own_barrier id (barrier.answered table) is =
      absurd (no_line _ (in_middle IsUpOrEnd is.before (ok_of id) is.behind (subst AreUpsOrEnds (sym first ∙ is.down_is) (inl refl, ends_too rest its_fed.1.1.0))))

  own_placed : (id : AskId) (here : Place) → IsInPlaceOf fixed world to front.replica id here → IsInPlaceOf fixed asked to empty_replica id here
  own_placed id here is = record {
    message = message_then id here to is.message;
    shows = shows_then id.conn here is.shows;
    barrier = own_barrier id (at_barrier here) is.barrier;
    there = is.there;
  }

  other_placed : (node : List ℕ) (replica : Replica) (id : AskId) (here : Place) → node ≢ to → IsInPlaceOf fixed world node replica id here
      → IsInPlaceOf fixed asked node replica id here
  other_placed node replica id here ne is = record {
    message = message_then id here node is.message;
    shows = shows_then id.conn here is.shows;
    barrier = barrier_alike id (at_barrier here) (on_link world.links node me) (on_link world.links me node) _ _ replica (other_up node ne) (other_down node ne)
        is.barrier;
    there = is.there;
  }

  stays : (conn : ℕ) → StaysInPlace fixed conn world next
  unfolding carry_all carry
  stays conn node was now before after command here is =
      let id : AskId = record { conn = conn; command = command } in
      ⊎_elim
      (λ (e : node ≡ to).
      let one : was ≡ front = same_Some was front (sym before ∙ (ap (front_at world) e ∙ there)) in
      let two : later ≡ now = same_Some later now (sym moved.own ∙ (ap (front_at next) (sym e) ∙ after)) in
      subst (λ n. IsInPlaceOf fixed next n now.replica id here) (sym e)
      (subst (λ (f : Front). IsInPlaceOf fixed next to f.replica id here) two
      (moves_with fixed asked next to empty_replica id here moved.homes
      (own_placed id here (subst (λ n. IsInPlaceOf fixed world n front.replica id here) e
      (subst (λ (f : Front). IsInPlaceOf fixed world node f.replica id here) one is))))))
      (λ (ne : node ≢ to).
      let same : was ≡ now = same_Some was now (sym before ∙ (sym (moved.fronts node ne) ∙ after)) in
      subst (λ (f : Front). IsInPlaceOf fixed next node f.replica id here) same
      (moves_with fixed asked next node was.replica id here moved.homes (other_placed node was.replica id here ne is)))
      (same_name_or node to)

  none_then : (conn : ℕ) → IsInNoneOf fixed world conn → IsInNoneOf fixed next conn
  unfolding carry_all carry
  none_then conn is =
      in_none_alike (home_at asked) (home_at next) moved.homes me next.links conn
      (record {
        message = others_sent base.links to me (Line update_line) (of_connection conn) (update_apart conn) 0 None
            (others_taken world.links me to Up rest (of_connection conn) first (not_of_nobody conn) 0 None is.message);
        shows = shows_then conn place.nowhere is.shows;
      })

  -- ---- names and feeds

  many_then : ManyHold (murder_of next law.master) law.given law.story.course.store
  many_then =
      let store : Store = law.story.course.store in
      front_keeps_many config base law.master law.given store (same_nodes config world base law.master refl law.nodes)
      (passing_many config world law.master law.given store law.nodes law.many me to
      (inr (front_is_one config world law.master law.given store law.nodes law.many to front there))) to front stepped there

  feeds_then : FeedsHold config next law.master
  unfolding carry_all carry
  feeds_then =
      let was = (law.feeds).each to front there in
      own_feeds config world next law.master law.nodes law.feeds to later moved refl other_up other_down
      (record {
        fed = fed_as law.master to (is_broken world.broken me to) (is_broken next.broken me to) true (is_up later.ups me)
            (on_link world.links to me ++ Line update_line ∷ []) (on_link next.links to me) rest (on_link next.links me to) empty_replica empty_replica
            refl (up_comes front.ups me) up_is down_is refl its_fed.1.1.1;
        knows = record {
          has = λ name server e. cc;
          each = tt;
          told = subst (AllByRecursion (TellsBackends (home_at next))) (sym down_is)
              (subst (AllByRecursion (TellsBackends (home_at next))) first
              (knows_still (home_at world) (home_at next) (on_link world.links me to) front.replica
              (moved_homes config world next law.master law.nodes law.feeds to later moved refl other_up other_down) was.knows).told).1;
        };
      })

  up_keeps : KeepsOn config law.story law.stops heard (all_come base to (From me Up))
  unfolding carry_all carry
  up_keeps =
      subst (λ w. KeepsOn config law.story law.stops heard w)
      (sym (front_all_come base to (From me Up) front there ∙ ap (with_front base to) does))
      (moved_keeps config heard world next law to front empty_replica (coming_up front.ups me) there moved refl refl refl refl stays none_then many_then feeds_then)

-- THE NEWS THAT THE LINK WITH THE MASTER CAME UP KEEPS THE LAW
pub master_up_stands : (config : Config) (heard : ℕ → Heard) (world : World) (law : KeepsLaw config heard world) (to : List ℕ) (front : Front)
    (rest : List LinkMsg) → front_at world to ≡ Some front → on_link world.links (master_of config) to ≡ Up ∷ rest
    → KeepsOn config law.story law.stops heard (all_come (taken_from_link world (master_of config) to) to (From (master_of config) Up))
master_up_stands config heard world law to front rest there first = up_keeps config heard world law to front rest there first
