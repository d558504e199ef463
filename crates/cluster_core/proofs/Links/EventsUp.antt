-- A LINK COMES UP: Up is put on both, which is about nobody; and no command waits for anything over it.
use Rattle.std.proofs.Common.{◌≡◌, ◌≢◌, ◌⊎◌, inl, inr, ℕ, Bool, true, false, cond, List, [], ◌∷◌, ◌++◌, Option, None, Some, refl, sym, ◌∙◌, ap, subst}
use Rattle.std.specs.Option.{IsSome}
use Rattle.cluster_core.specs.World.{front_at, home_at, is_nothing, joins_if, master_of, may_join, with_join}
use Rattle.cluster_core.specs.declared.world.World.{World}
use Rattle.feed_core.specs.declared.replica.Replica.{Replica}
use Rattle.feed_links.proofs.FeedLaw.{both as both_lists, mends_keep_it}
use Rattle.feed_links.specs.Lines.{stream_of}
use Rattle.feed_links.specs.OneFeed.{IsFed}
use Rattle.front_core.specs.Front.{awaited, connection_at}
use Rattle.front_core.specs.Ups.{is_up}
use Rattle.front_core.specs.declared.front.Front.{Front}
use Rattle.imap_talk.specs.Heard.{Heard}
use Rattle.link_msg.specs.declared.message.LinkMsg.{LinkMsg}
use Rattle.link_msg.specs.declared.message.LinkMsg.TheVariants.{End, Up}
use Rattle.link_queue.proofs.BrokenLaws.{is_broken-mending}
use Rattle.link_queue.proofs.Wires.{same_itself, same_names}
use Rattle.link_queue.specs.Broken.{is_broken, mending}
use Rattle.link_queue.specs.Links.{on_link, same_link}
use Rattle.many_links.specs.Murder.{Nodes}
use Rattle.mupdate_codec.specs.declared.tag.Tag.{Tag}
use Rattle.mur_base.specs.declared.point.AskId.{AskId}
use Rattle.mur_config.specs.declared.config.Config.{Config}
use Rattle.route_links.specs.Answered.{noop_of, ok_of}
use Rattle.route_links.specs.Barriers.{IsBarrierAt, Place as Barrier, Place as barrier}
use Rattle.cluster_core.proofs.Connections.KeepsLaw.{FeedsHold, IsFedAt, KeepsLaw, KeepsOn, KnowsBackends, TellsBackends}
use Rattle.cluster_core.proofs.Connections.KeepsStill.{same_kept}
use Rattle.cluster_core.proofs.Links.Events.{Puts, and_parts, another_both, mends_some, messages_both, none_there, on_others, on_these, puts}
use Rattle.cluster_core.proofs.Links.Relinked.{Relinks, relinked_keeps}
use Rattle.cluster_core.proofs.Links.Stand.{IsDown, IsOver, LinksStand}
use Rattle.cluster_core.proofs.Places.Stays.{BarriersStay, HomesAlike, barrier_alike}

-- nothing stands in an empty queue
none_before : (before : List LinkMsg) (message : LinkMsg) (rest : List LinkMsg) → [] ≡ before ++ message ∷ rest → ⊥
none_before [] message rest e = cc
none_before (x ∷ before) message rest e = cc

-- ---- a link comes up

no_news : (nodes : Nodes) → TellsBackends nodes Up
no_news nodes replica are = are

module _ (config : Config) (heard : ℕ → Heard) (world : World) (law : KeepsLaw config heard world) (one other : List ℕ) (links : LinksStand config world)
    (was : is_broken world.broken one other ≡ true) (empty : on_link world.links one other ≡ []) (empty_back : on_link world.links other one ≡ []) where
  abbrev me : List ℕ
  me = master_of config

  abbrev next : World
  next = with_join world one other

  was_back : is_broken world.broken other one ≡ true
  was_back = links.both other one ∙ was

  -- a link that isn't broken is another one
  another : (a b from to : List ℕ) → is_broken world.broken from to ≡ true → is_broken world.broken a b ≡ false → same_link a b from to ≡ false
  another a b from to lost whole = by (same_link a b from to) refl
    where
      by : (same : Bool) → same_link a b from to ≡ same → same_link a b from to ≡ false
      by false e = e
      by true e =
          let at = same_names a b from to e in
          absurd (let no : true ≡ false = sym lost ∙ ap (λ x. is_broken world.broken x to) (sym at.0) ∙ ap (is_broken world.broken a) (sym at.1) ∙ whole in cc)

  join_else : (a b : List ℕ) → is_broken world.broken a b ≡ false → on_link next.links a b ≡ on_link world.links a b
  join_else a b whole = another_both world.links one other Up a b (another a b one other was whole) (another a b other one was_back whole)

  -- no command waits for a server whose link has nothing on its way
  none_waits : (conn : ℕ) (node server : List ℕ) (front : Front) → front_at world node ≡ Some front → awaited me (connection_at front conn) server ≡ true
      → on_link world.links server node ≡ [] → IsDown (on_link world.links server node) (is_up front.ups server) → ⊥
  none_waits conn node server front at waits none (IsDown.is_ending messages e) = none_before messages End [] (sym none ∙ e)
  none_waits conn node server front at waits none (IsDown.has_ended e down) =
      (let no : true ≡ false = sym (links.waits_up node server front conn at waits) ∙ down in cc)

  -- so it is another link
  not_joined : (conn : ℕ) (node server : List ℕ) (front : Front) → front_at world node ≡ Some front → awaited me (connection_at front conn) server ≡ true
      → is_broken world.broken server node ≡ true → (from to : List ℕ) → on_link world.links from to ≡ [] → same_link server node from to ≡ false
  not_joined conn node server front at waits lost from to none = by (same_link server node from to) refl
    where
      by : (same : Bool) → same_link server node from to ≡ same → same_link server node from to ≡ false
      by false e = e
      by true e =
          let same = same_names server node from to e in
          absurd (none_waits conn node server front at waits
          (ap (λ x. on_link world.links x node) same.0 ∙ ap (on_link world.links from) same.1 ∙ none) (links.down node server front at lost))

  mends : (a b : List ℕ) → same_link a b one other ≡ false → same_link a b other one ≡ false → is_broken next.broken a b ≡ is_broken world.broken a b
  mends a b one_no other_no =
      is_broken-mending (mending world.broken one other) other one a b
      ∙ ap (λ s. cond s false (is_broken (mending world.broken one other) a b)) other_no
      ∙ is_broken-mending world.broken one other a b
      ∙ ap (λ s. cond s false (is_broken world.broken a b)) one_no

  joined_homes : HomesAlike me (home_at world) world.links next.links
  joined_homes name node at =
      let some : IsSome (home_at world name) = subst IsSome (sym at) refl in
      (join_else name me (links.to_master name some), join_else me name (links.from_master name some))

  -- nothing is on these
  none_on : (a b : List ℕ) → ((a ≡ one) × (b ≡ other)) ⊎ ((a ≡ other) × (b ≡ one)) → (on_link world.links a b ≡ []) × (on_link world.links b a ≡ [])
  none_on a b (inl is) = (
    ap (λ x. on_link world.links x b) is.0 ∙ ap (on_link world.links one) is.1 ∙ empty,
    ap (λ x. on_link world.links x a) is.1 ∙ ap (on_link world.links other) is.0 ∙ empty_back,
  )
  none_on a b (inr is) = (
    ap (λ x. on_link world.links x b) is.0 ∙ ap (on_link world.links other) is.1 ∙ empty_back,
    ap (λ x. on_link world.links x a) is.1 ∙ ap (on_link world.links one) is.0 ∙ empty,
  )

  broken_on : (a b : List ℕ) → ((a ≡ one) × (b ≡ other)) ⊎ ((a ≡ other) × (b ≡ one)) → is_broken world.broken a b ≡ true
  broken_on a b (inl is) = ap (λ x. is_broken world.broken x b) is.0 ∙ ap (is_broken world.broken one) is.1 ∙ was
  broken_on a b (inr is) = ap (λ x. is_broken world.broken x b) is.0 ∙ ap (is_broken world.broken other) is.1 ∙ was_back

  -- no barrier is on empty links
  nothing_there : (ask : AskId) (at : Barrier) (replica : Replica) → IsBarrierAt ask at [] [] replica → IsBarrierAt ask at (Up ∷ []) (Up ∷ []) replica
  nothing_there ask barrier.nowhere replica is = record { up_others = (tt, tt); down_others = (tt, tt) }
  nothing_there ask barrier.asked replica is = absurd (none_before is.before (noop_of ask) is.behind is.up_is)
  nothing_there ask (barrier.answered table) replica is = absurd (none_before is.before (ok_of ask) is.behind is.down_is)

  module _ (apart : one ≢ other) where
    joined_barriers : (conn : ℕ) → BarriersStay me conn world.links next.links
    joined_barriers conn front replica command at is = by (puts world.links one other Up apart front me)
      where
        by : Puts world.links one other Up front me
            → IsBarrierAt (record { conn = conn; command = command }) at (on_link next.links front me) (on_link next.links me front) replica
        by (on_these which up down) =
            let none = none_on front me which in
            barrier_alike (record { conn = conn; command = command }) at (Up ∷ []) (Up ∷ []) (on_link next.links front me) (on_link next.links me front) replica
            (up ∙ ap (λ l. l ++ Up ∷ []) none.0) (down ∙ ap (λ l. l ++ Up ∷ []) none.1)
            (nothing_there (record { conn = conn; command = command }) at replica
            (barrier_alike (record { conn = conn; command = command }) at (on_link world.links front me) (on_link world.links me front) [] [] replica
            (sym none.0) (sym none.1) is))
        by (on_others a b c d up down) =
            barrier_alike (record { conn = conn; command = command }) at (on_link world.links front me) (on_link world.links me front)
            (on_link next.links front me) (on_link next.links me front) replica up down is

    joined_relinks : Relinks me world next
    joined_relinks = record {
      nodes = refl;
      clients = refl;
      marks = refl;
      steps = refl;
      messages = messages_both world.links one other Up refl;
      homes = joined_homes;
      barriers = joined_barriers;
      cut = λ none. absurd (mends_some (mending world.broken one other) other one none);
      dropped = λ conn node server front at waits lost.
          mends server node (not_joined conn node server front at waits lost one other empty) (not_joined conn node server front at waits lost other one empty_back) ∙ lost;
    }

    -- ---- feeds

    -- the frontend has taken the End
    is_down : (any : List ℕ) (front : Front) → front_at world any ≡ Some front → on_link world.links me any ≡ []
        → IsDown (on_link world.links me any) (is_up front.ups me) → is_up front.ups me ≡ false
    is_down any front at none (IsDown.is_ending messages e) = absurd (none_before messages End [] (sym none ∙ e))
    is_down any front at none (IsDown.has_ended e down) = down

    -- and so has the master
    is_over : (stream : Option Tag) (queue : List LinkMsg) → queue ≡ [] → IsOver queue stream → stream ≡ None
    is_over stream queue none (IsOver.over_soon messages e) = absurd (none_before messages End [] (sym none ∙ e))
    is_over stream queue none (IsOver.is_over e over) = over

    whole_now : (any : List ℕ) → ((any ≡ one) × (me ≡ other)) ⊎ ((any ≡ other) × (me ≡ one)) → is_broken next.broken me any ≡ false
    whole_now any (inl is) =
        is_broken-mending (mending world.broken one other) other one me any
        ∙ ap (λ s. cond s false (is_broken (mending world.broken one other) me any))
        (ap (λ x. same_link x any other one) is.1 ∙ ap (λ y. same_link other y other one) is.0 ∙ same_itself other one)
    whole_now any (inr is) =
        is_broken-mending (mending world.broken one other) other one me any
        ∙ either_false (same_link me any other one) (is_broken (mending world.broken one other) me any)
        (is_broken-mending world.broken one other me any
        ∙ ap (λ s. cond s false (is_broken world.broken me any))
        (ap (λ x. same_link x any one other) is.1 ∙ ap (λ y. same_link one y one other) is.0 ∙ same_itself one other))
      where
        either_false : (same cut : Bool) → cut ≡ false → cond same false cut ≡ false
        either_false true cut e = refl
        either_false false cut e = e

    fed_by : (any : List ℕ) (front : Front) → front_at world any ≡ Some front → IsFedAt config world law.master any front → Puts world.links one other Up any me
        → IsFed law.master any (is_broken next.broken me any) (is_up front.ups me) (on_link next.links any me) (on_link next.links me any) front.replica
    fed_by any front at was (on_these which up down) =
        let none = none_on any me which in
        let lost : is_broken world.broken any me ≡ true = broken_on any me which in
        let unreached : is_up front.ups me ≡ false = is_down any front at none.1 (links.down any me front at (links.both me any ∙ lost)) in
        let no_stream : stream_of law.master any ≡ None =
        is_over (stream_of law.master any) (on_link world.links any me) none.0 (links.master_down any front law.master at law.nodes.is_there lost) in
        subst (λ b. IsFed law.master any b (is_up front.ups me) (on_link next.links any me) (on_link next.links me any) front.replica) (sym (whole_now any which))
        (subst (λ r. IsFed law.master any false r (on_link next.links any me) (on_link next.links me any) front.replica) (sym unreached)
        (subst (λ u. IsFed law.master any false false u (on_link next.links me any) front.replica) (sym (up ∙ ap (λ l. l ++ Up ∷ []) none.0))
        (subst (λ d. IsFed law.master any false false (Up ∷ []) d front.replica) (sym (down ∙ ap (λ l. l ++ Up ∷ []) none.1))
        (mends_keep_it law.master any front.replica no_stream))))
    fed_by any front at was (on_others a b c d up down) =
        subst (λ l. IsFed law.master any l (is_up front.ups me) (on_link next.links any me) (on_link next.links me any) front.replica) (sym (mends me any c d))
        (subst (λ u. IsFed law.master any (is_broken world.broken me any) (is_up front.ups me) u (on_link next.links me any) front.replica) (sym up)
        (subst (λ q. IsFed law.master any (is_broken world.broken me any) (is_up front.ups me) (on_link world.links any me) q front.replica) (sym down) was.fed))

    knows_by : (any : List ℕ) (front : Front) → KnowsBackends (home_at world) (on_link world.links me any) front.replica → Puts world.links one other Up any me
        → KnowsBackends (home_at world) (on_link next.links me any) front.replica
    knows_by any front knows (on_these which up down) =
        subst (λ d. KnowsBackends (home_at world) d front.replica) (sym down) (record {
          has = knows.has;
          each = knows.each;
          told = both_lists (TellsBackends (home_at world)) (on_link world.links me any) (Up ∷ []) knows.told (no_news (home_at world), tt);
        })
    knows_by any front knows (on_others a b c d up down) = subst (λ q. KnowsBackends (home_at world) q front.replica) (sym down) knows

    joined_feeds : FeedsHold config next law.master
    joined_feeds = record {
      each = λ any front at.
          (let was = law.feeds.each any front at in
          record {
            fed = fed_by any front at was (puts world.links one other Up apart any me);
            knows = knows_by any front was.knows (puts world.links one other Up apart any me);
          });
      streams = law.feeds.streams;
      nobodys = law.feeds.nobodys;
      spelled = law.feeds.spelled;
      backends = law.feeds.backends;
      kept = law.feeds.kept;
    }

    join_so : KeepsOn config law.story law.stops heard next
    join_so = relinked_keeps config heard world next joined_relinks law joined_feeds

joins_by : (config : Config) (heard : ℕ → Heard) (world : World) (law : KeepsLaw config heard world) (one other : List ℕ) → LinksStand config world
    → ((a b : List ℕ) → is_broken world.broken a b ≡ true → a ≢ b) → (may : Bool) → may_join world one other ≡ may → KeepsOn config law.story law.stops heard (joins_if may world one other)
unfolding joins_if may_join
joins_by config heard world law one other links apart true e =
    let are = and_parts (is_broken world.broken one other) (is_nothing (on_link world.links one other)) (is_nothing (on_link world.links other one)) e in
    join_so config heard world law one other links are.0 (none_there (on_link world.links one other) are.1) (none_there (on_link world.links other one) are.2)
    (apart one other are.0)
joins_by config heard world law one other links apart false e = same_kept config heard heard world (λ conn. refl) law

-- A LINK COMES UP, which joins two nodes
pub join_keeps : (config : Config) (heard : ℕ → Heard) (world : World) (law : KeepsLaw config heard world) (one other : List ℕ) → LinksStand config world
    → ((a b : List ℕ) → is_broken world.broken a b ≡ true → a ≢ b)
    → KeepsOn config law.story law.stops heard (joins_if (may_join world one other) world one other)
join_keeps config heard world law one other links apart = joins_by config heard world law one other links apart (may_join world one other) refl
