-- A LINK BREAKS: End stands behind all that was on its way on both, which is about nobody; and then messages on them are gone. A reply whose OK is among these
-- is taken back.
use Rattle.std.proofs.Common.{◌≡◌, ◌≢◌, ◌⊎◌, inl, inr, ◌&&◌, ◌||◌, ℕ, Bool, true, false, not, cond, List, [], ◌∷◌, ◌++◌, drop, take, None, Some, refl, sym, ◌∙◌, ap, subst, append-nil, append_assoc}
use Rattle.std.proofs.lemmas.List.{take-append-drop}
use Rattle.std.specs.Cmp.Lexicographic.{slice_cmp}
use Rattle.std.specs.Option.{IsSome}
use Rattle.std.specs.Ordering.{is_eq, nat_cmp}
use Rattle.back_node.specs.declared.node.BackNode.{BackNode}
use Rattle.cluster_core.specs.World.{cuts_if, home_at, is_nothing, master_of, may_cut, may_part, node_at, with_cut}
use Rattle.cluster_core.specs.declared.world.World.{World}
use Rattle.feed_links.proofs.FeedLaw.{both as both_lists, breaks_keep_it}
use Rattle.feed_links.proofs.Parts.{IsCutShort, nothing_lost}
use Rattle.feed_links.specs.OneFeed.{IsFed}
use Rattle.front_core.proofs.OneConnection.Places.{PlacesStay as MessagesStay, about, nobody_whom, of_connection, of_nobody, others_sent}
use Rattle.front_core.specs.Ups.{is_up}
use Rattle.front_core.specs.declared.front.Front.{Front}
use Rattle.imap_talk.specs.Heard.{Heard}
use Rattle.link_msg.specs.declared.message.LinkMsg.{LinkMsg}
use Rattle.link_msg.specs.declared.message.LinkMsg.TheVariants.{End}
use Rattle.link_queue.proofs.BrokenLaws.{is_broken-breaking}
use Rattle.link_queue.proofs.Wires.{on_link-cut, on_link-sent, same_itself, same_names}
use Rattle.link_queue.specs.Broken.{Broken, breaking, is_broken, mending}
use Rattle.link_queue.specs.Links.{Links, cut_short, on_link, same_link, sent}
use Rattle.many_links.specs.Murder.{Nodes}
use Rattle.mur_base.proofs.MapLaws.{names_apart, value_at-with_entry}
use Rattle.mur_base.specs.Map.{value_at, with_entry}
use Rattle.mur_config.specs.declared.config.Config.{Config}
use Rattle.route_links.proofs.BarrierLaw.{breaks as breaks_barrier}
use Rattle.route_links.specs.Barriers.{IsBarrierAt}
use Rattle.cluster_core.proofs.Connections.KeepsBehind.{behind}
use Rattle.cluster_core.proofs.Connections.KeepsLaw.{FeedsHold, IsFedAt, KeepsBehind, KeepsLaw, KnowsBackends, TellsBackends}
use Rattle.cluster_core.proofs.Connections.KeepsStill.{same_kept}
use Rattle.cluster_core.proofs.Links.PlacesThin.{apart_before, breaks_apart}
use Rattle.cluster_core.proofs.Links.Relinked.{Relinks, relinked_law}
use Rattle.cluster_core.proofs.Links.Stand.{LinksStand}
use Rattle.cluster_core.proofs.Links.Tells.{cut_parted}
use Rattle.cluster_core.proofs.Links.Thinned.{IsThinned}
use Rattle.cluster_core.proofs.Links.ThinnedLaw.{thinned_behind}
use Rattle.cluster_core.proofs.Places.Stays.{BarriersStay, HomesAlike, barrier_alike}

-- ---- which links are broken then

no_entry : {V : Type 0} (entries : List (List ℕ × V)) (node : List ℕ) (value : V) → with_entry (slice_cmp nat_cmp) entries node value ≡ [] → ⊥
no_entry entries node value e =
    (let no : None ≡ Some value = sym (ap (λ l. value_at (slice_cmp nat_cmp) l node) e) ∙ value_at-with_entry (slice_cmp nat_cmp) names_apart entries node value in cc)

-- behind a cut there is an entry, and so there is once the link is whole again
pub breaks_some : (broken : Broken) (one other : List ℕ) → breaking broken one other ≡ [] → ⊥
unfolding breaking
breaks_some broken one other e = no_entry broken one _ e

pub mends_some : (broken : Broken) (one other : List ℕ) → mending broken one other ≡ [] → ⊥
unfolding mending
mends_some broken one other e = no_entry broken one _ e

pub or_parts : (one two three : Bool) → (one || (two || three)) ≡ false → (one ≡ false) × (two ≡ false) × (three ≡ false)
or_parts false false three e = (refl, refl, e)
or_parts false true three e = cc
or_parts true two three e = cc

pub or_last : (one two three : Bool) → three ≡ true → (one || (two || three)) ≡ true
or_last true two three e = refl
or_last false true three e = refl
or_last false false three e = e

or_second : (one two three : Bool) → two ≡ true → (one || (two || three)) ≡ true
or_second true two three e = refl
or_second false true three e = refl
or_second false false three e = cc

pub and_parts : (one two three : Bool) → (one && two && three) ≡ true → (one ≡ true) × (two ≡ true) × (three ≡ true)
and_parts true true three e = (refl, refl, e)
and_parts true false three e = cc
and_parts false two three e = cc

-- a link breaks that isn't broken
cut_whole : (world : World) (one other : List ℕ) → may_cut world one other ≡ true → is_broken world.broken one other ≡ false
unfolding may_cut
cut_whole world one other may =
    by (may_part (node_at world one) (node_at world other)) (is_eq (slice_cmp nat_cmp one other)) (is_broken world.broken one other) refl may
  where
    by : (part same cut : Bool) → is_broken world.broken one other ≡ cut → (part && not same && not cut) ≡ true → is_broken world.broken one other ≡ false
    by part same false e k = e
    by true true true e k = cc
    by true false true e k = cc
    by false same true e k = cc

pub none_there : (queue : List LinkMsg) → is_nothing queue ≡ true → queue ≡ []
unfolding is_nothing
none_there [] e = refl
none_there (message ∷ queue) e = cc

-- ---- what is put on both

module _ (links : Links LinkMsg) (one other : List ℕ) (message : LinkMsg) where
  abbrev pub both : Links LinkMsg
  both = sent (sent links one other message) other one message

  -- of each link
  pub on_both : (a b : List ℕ)
      → on_link both a b ≡ (on_link links a b ++ cond (same_link a b one other) (message ∷ []) []) ++ cond (same_link a b other one) (message ∷ []) []
  on_both a b =
      on_link-sent (sent links one other message) other one a b message
      ∙ ap (λ (q : List LinkMsg). q ++ cond (same_link a b other one) (message ∷ []) []) (on_link-sent links one other a b message)

  pub another_both : (a b : List ℕ) → same_link a b one other ≡ false → same_link a b other one ≡ false → on_link both a b ≡ on_link links a b
  another_both a b one_no other_no =
      on_both a b
      ∙ ap (λ s. (on_link links a b ++ cond s (message ∷ []) []) ++ cond (same_link a b other one) (message ∷ []) []) one_no
      ∙ ap (λ s. (on_link links a b ++ []) ++ cond s (message ∷ []) []) other_no
      ∙ append-nil (on_link links a b ++ []) ∙ append-nil (on_link links a b)

  -- both are these links, or neither is
  pub data Puts (a b : List ℕ) : Type 0 where
    on_these : ((a ≡ one) × (b ≡ other)) ⊎ ((a ≡ other) × (b ≡ one)) → on_link both a b ≡ on_link links a b ++ message ∷ []
        → on_link both b a ≡ on_link links b a ++ message ∷ [] → Puts a b
    on_others : same_link a b one other ≡ false → same_link a b other one ≡ false → same_link b a one other ≡ false → same_link b a other one ≡ false
        → on_link both a b ≡ on_link links a b → on_link both b a ≡ on_link links b a → Puts a b

  module _ (apart : one ≢ other) where
    not_back : same_link one other other one ≡ false
    not_back = by (same_link one other other one) refl
      where
        by : (same : Bool) → same_link one other other one ≡ same → same_link one other other one ≡ false
        by true e = absurd (apart (same_names one other other one e).0)
        by false e = e

    not_there : same_link other one one other ≡ false
    not_there = by (same_link other one one other) refl
      where
        by : (same : Bool) → same_link other one one other ≡ same → same_link other one one other ≡ false
        by true e = absurd (apart (same_names other one one other e).1)
        by false e = e

    on_one : on_link both one other ≡ on_link links one other ++ message ∷ []
    on_one =
        on_both one other
        ∙ ap (λ s. (on_link links one other ++ cond s (message ∷ []) []) ++ cond (same_link one other other one) (message ∷ []) []) (same_itself one other)
        ∙ ap (λ s. (on_link links one other ++ message ∷ []) ++ cond s (message ∷ []) []) not_back ∙ append-nil (on_link links one other ++ message ∷ [])

    on_other : on_link both other one ≡ on_link links other one ++ message ∷ []
    on_other =
        on_both other one
        ∙ ap (λ s. (on_link links other one ++ cond s (message ∷ []) []) ++ cond (same_link other one other one) (message ∷ []) []) not_there
        ∙ ap (λ s. (on_link links other one ++ []) ++ cond s (message ∷ []) []) (same_itself other one)
        ∙ ap (λ l. l ++ message ∷ []) (append-nil (on_link links other one))

    by_first : (a b : List ℕ) → (a ≡ one) × (b ≡ other) → Puts a b
    by_first a b is =
        on_these (inl is)
        (ap (λ x. on_link both x b) is.0 ∙ ap (on_link both one) is.1 ∙ on_one
        ∙ sym (ap (λ x. on_link links x b ++ message ∷ []) is.0 ∙ ap (λ y. on_link links one y ++ message ∷ []) is.1))
        (ap (λ x. on_link both x a) is.1 ∙ ap (on_link both other) is.0 ∙ on_other
        ∙ sym (ap (λ x. on_link links x a ++ message ∷ []) is.1 ∙ ap (λ y. on_link links other y ++ message ∷ []) is.0))

    by_second : (a b : List ℕ) → (a ≡ other) × (b ≡ one) → Puts a b
    by_second a b is =
        on_these (inr is)
        (ap (λ x. on_link both x b) is.0 ∙ ap (on_link both other) is.1 ∙ on_other
        ∙ sym (ap (λ x. on_link links x b ++ message ∷ []) is.0 ∙ ap (λ y. on_link links other y ++ message ∷ []) is.1))
        (ap (λ x. on_link both x a) is.1 ∙ ap (on_link both one) is.0 ∙ on_one
        ∙ sym (ap (λ x. on_link links x a ++ message ∷ []) is.1 ∙ ap (λ y. on_link links one y ++ message ∷ []) is.0))

    none_of : (a b from to : List ℕ) → ((a ≡ from) × (b ≡ to) → ⊥) → (same : Bool) → same_link a b from to ≡ same → same_link a b from to ≡ false
    none_of a b from to not true e = absurd (not (same_names a b from to e))
    none_of a b from to not false e = e

    puts_by : (a b : List ℕ) (first second : Bool) → same_link a b one other ≡ first → same_link a b other one ≡ second → Puts a b
    puts_by a b true second e f = by_first a b (same_names a b one other e)
    puts_by a b false true e f = by_second a b (same_names a b other one f)
    puts_by a b false false e f =
        let back_one : same_link b a one other ≡ false = none_of b a one other (λ is.
        (let no : true ≡ false = sym (ap (λ x. same_link x b other one) is.1 ∙ ap (λ y. same_link other y other one) is.0 ∙ same_itself other one) ∙ f in true_false no))
        (same_link b a one other) refl in
        let back_other : same_link b a other one ≡ false = none_of b a other one (λ is.
        (let no : true ≡ false = sym (ap (λ x. same_link x b one other) is.1 ∙ ap (λ y. same_link one y one other) is.0 ∙ same_itself one other) ∙ e in true_false no))
        (same_link b a other one) refl in
        on_others e f back_one back_other (another_both a b e f) (another_both b a back_one back_other)
      where
        true_false : true ≡ false → ⊥
        true_false k = cc

    pub puts : (a b : List ℕ) → Puts a b
    puts a b = puts_by a b (same_link a b one other) (same_link a b other one) refl refl

  pub messages_both : about message ≡ of_nobody → (conn : ℕ) → MessagesStay (of_connection conn) links both
  messages_both none conn first found placed =
      let ne : about message ≢ of_connection conn = (λ e. nobody_whom conn (sym none ∙ e)) in
      others_sent (sent links one other message) other one message (of_connection conn) ne first found
      (others_sent links one other message (of_connection conn) ne first found placed)

-- ---- a link breaks

no_news : (nodes : Nodes) → TellsBackends nodes End
no_news nodes replica are = are

module _ (config : Config) (heard : ℕ → Heard) (world : World) (law : KeepsLaw config heard world) (one other : List ℕ) (kept kept_back : ℕ)
    (links : LinksStand config world) (then : LinksStand config (with_cut world one other kept kept_back)) (apart : one ≢ other)
    (was_whole : is_broken world.broken one other ≡ false) where
  abbrev me : List ℕ
  me = master_of config

  abbrev next : World
  next = with_cut world one other kept kept_back

  abbrev broken_then : Broken
  broken_then = breaking (breaking world.broken one other) other one

  -- End behind all that was on its way
  abbrev ended : World
  ended = record world { links = both world.links one other End; broken = broken_then }

  breaks : (a b : List ℕ) → is_broken broken_then a b ≡ (same_link a b other one || (same_link a b one other || is_broken world.broken a b))
  breaks a b =
      is_broken-breaking (breaking world.broken one other) other one a b
      ∙ ap (λ t. same_link a b other one || t) (is_broken-breaking world.broken one other a b)

  whole_parts : (a b : List ℕ) → is_broken broken_then a b ≡ false → (same_link a b other one ≡ false) × (same_link a b one other ≡ false) × (is_broken world.broken a b ≡ false)
  whole_parts a b whole = or_parts (same_link a b other one) (same_link a b one other) (is_broken world.broken a b) (sym (breaks a b) ∙ whole)

  whole_home : (name : List ℕ) (node : BackNode) → home_at world name ≡ Some node
      → (is_broken broken_then name me ≡ false) × (is_broken broken_then me name ≡ false)
  whole_home name node at =
      let some : IsSome (home_at world name) = subst IsSome (sym at) refl in (then.to_master name some, then.from_master name some)

  ended_homes : HomesAlike me (home_at world) world.links ended.links
  ended_homes name node at =
      let whole = whole_home name node at in
      let up_not = whole_parts name me whole.0 in
      let down_not = whole_parts me name whole.1 in
      (another_both world.links one other End name me up_not.1 up_not.0, another_both world.links one other End me name down_not.1 down_not.0)

  ended_barriers : (conn : ℕ) → BarriersStay me conn world.links ended.links
  ended_barriers conn front replica command at is = by (puts world.links one other End apart front me)
    where
      by : Puts world.links one other End front me
          → IsBarrierAt (record { conn = conn; command = command }) at (on_link ended.links front me) (on_link ended.links me front) replica
      by (on_these which up down) =
          barrier_alike (record { conn = conn; command = command }) at (on_link world.links front me ++ End ∷ []) (on_link world.links me front ++ End ∷ [])
          (on_link ended.links front me) (on_link ended.links me front) replica up down
          (breaks_barrier (record { conn = conn; command = command }) at (on_link world.links front me) (on_link world.links me front) replica is)
      by (on_others a b c d up down) =
          barrier_alike (record { conn = conn; command = command }) at (on_link world.links front me) (on_link world.links me front)
          (on_link ended.links front me) (on_link ended.links me front) replica up down is

  ended_relinks : Relinks me world ended
  ended_relinks = record {
    nodes = refl;
    clients = refl;
    marks = refl;
    steps = refl;
    messages = messages_both world.links one other End refl;
    homes = ended_homes;
    barriers = ended_barriers;
    cut = λ none. absurd (breaks_some (breaking world.broken one other) other one none);
    dropped = λ conn node server front at waits cut.
        breaks server node ∙ or_last (same_link server node other one) (same_link server node one other) (is_broken world.broken server node) cut;
  }

  -- ---- feeds

  -- the link that breaks
  cut_was : (any : List ℕ) → ((any ≡ one) × (me ≡ other)) ⊎ ((any ≡ other) × (me ≡ one)) → is_broken world.broken me any ≡ false
  cut_was any (inl is) = links.both me any ∙ ap (λ x. is_broken world.broken x me) is.0 ∙ ap (is_broken world.broken one) is.1 ∙ was_whole
  cut_was any (inr is) = ap (λ x. is_broken world.broken x any) is.1 ∙ ap (is_broken world.broken one) is.0 ∙ was_whole

  cut_now : (any : List ℕ) → ((any ≡ one) × (me ≡ other)) ⊎ ((any ≡ other) × (me ≡ one)) → is_broken broken_then me any ≡ true
  cut_now any (inl is) =
      breaks me any
      ∙ ap (λ s. s || (same_link me any one other || is_broken world.broken me any))
      (ap (λ x. same_link x any other one) is.1 ∙ ap (λ y. same_link other y other one) is.0 ∙ same_itself other one)
  cut_now any (inr is) =
      breaks me any
      ∙ or_second (same_link me any other one) (same_link me any one other) (is_broken world.broken me any)
      (ap (λ x. same_link x any one other) is.1 ∙ ap (λ y. same_link one y one other) is.0 ∙ same_itself one other)

  fed_by : (any : List ℕ) (front : Front) → IsFedAt config world law.master any front → Puts world.links one other End any me
      → IsFed law.master any (is_broken broken_then me any) (is_up front.ups me) (on_link ended.links any me) (on_link ended.links me any) front.replica
  fed_by any front was (on_these which up down) =
      subst (λ b. IsFed law.master any b (is_up front.ups me) (on_link ended.links any me) (on_link ended.links me any) front.replica) (sym (cut_now any which))
      (subst (λ u. IsFed law.master any true (is_up front.ups me) u (on_link ended.links me any) front.replica) (sym up)
      (subst (λ d. IsFed law.master any true (is_up front.ups me) (on_link world.links any me ++ End ∷ []) d front.replica) (sym down)
      (breaks_keep_it law.master any (is_up front.ups me) (on_link world.links any me) (on_link world.links me any) front.replica
      (subst (λ b. IsFed law.master any b (is_up front.ups me) (on_link world.links any me) (on_link world.links me any) front.replica) (cut_was any which) was.fed))))
  fed_by any front was (on_others a b c d up down) =
      subst (λ l. IsFed law.master any l (is_up front.ups me) (on_link ended.links any me) (on_link ended.links me any) front.replica)
      (sym (breaks me any ∙ ap (λ s. s || (same_link me any one other || is_broken world.broken me any)) d ∙ ap (λ s. s || is_broken world.broken me any) c))
      (subst (λ u. IsFed law.master any (is_broken world.broken me any) (is_up front.ups me) u (on_link ended.links me any) front.replica) (sym up)
      (subst (λ q. IsFed law.master any (is_broken world.broken me any) (is_up front.ups me) (on_link world.links any me) q front.replica) (sym down) was.fed))

  knows_by : (any : List ℕ) (front : Front) → KnowsBackends (home_at world) (on_link world.links me any) front.replica → Puts world.links one other End any me
      → KnowsBackends (home_at world) (on_link ended.links me any) front.replica
  knows_by any front knows (on_these which up down) =
      subst (λ d. KnowsBackends (home_at world) d front.replica) (sym down) (record {
        has = knows.has;
        each = knows.each;
        told = both_lists (TellsBackends (home_at world)) (on_link world.links me any) (End ∷ []) knows.told (no_news (home_at world), tt);
      })
  knows_by any front knows (on_others a b c d up down) = subst (λ q. KnowsBackends (home_at world) q front.replica) (sym down) knows

  ended_feeds : FeedsHold config ended law.master
  ended_feeds = record {
    each = λ any front at.
        (let was = law.feeds.each any front at in
        record {
          fed = fed_by any front was (puts world.links one other End apart any me);
          knows = knows_by any front was.knows (puts world.links one other End apart any me);
        });
    streams = law.feeds.streams;
    nobodys = law.feeds.nobodys;
    spelled = law.feeds.spelled;
    backends = law.feeds.backends;
    kept = law.feeds.kept;
  }

  -- so many are left
  abbrev half : Links LinkMsg
  half = cut_short world.links one other kept End

  -- so many of one queue, with End behind them
  cut_at : (k : ℕ) (q : List LinkMsg) → IsCutShort (take k q ++ End ∷ []) (q ++ End ∷ [])
  cut_at k q = record {
    kept = take k q;
    lost = drop k q;
    behind = End ∷ [];
    whole_is = ap (λ l. l ++ End ∷ []) (sym (take-append-drop k q)) ∙ append_assoc (take k q) (drop k q) (End ∷ []);
    part_is = refl;
    ends = (refl, tt);
  }

  short_by : (q : List LinkMsg) (first second : Bool) → (first ≡ true → second ≡ true → ⊥)
      → IsCutShort (cond second (take kept_back (cond first (take kept q ++ End ∷ []) q) ++ End ∷ []) (cond first (take kept q ++ End ∷ []) q))
      ((q ++ cond first (End ∷ []) []) ++ cond second (End ∷ []) [])
  short_by q true true not = absurd (not refl refl)
  short_by q true false not = subst (IsCutShort (take kept q ++ End ∷ [])) (sym (append-nil (q ++ End ∷ []))) (cut_at kept q)
  short_by q false true not = subst (λ l. IsCutShort (take kept_back q ++ End ∷ []) (l ++ End ∷ [])) (sym (append-nil q)) (cut_at kept_back q)
  short_by q false false not = subst (IsCutShort q) (sym (append-nil (q ++ []) ∙ append-nil q)) (nothing_lost q)

  short_at : (a b : List ℕ) → IsCutShort (on_link next.links a b) (on_link ended.links a b)
  short_at a b =
      subst (λ l. IsCutShort l (on_link ended.links a b))
      (sym (on_link-cut half other one a b kept_back End
      ∙ ap (λ h. cond (same_link a b other one) (take kept_back h ++ End ∷ []) h) (on_link-cut world.links one other a b kept End)))
      (subst (IsCutShort (cond (same_link a b other one) (take kept_back (cond (same_link a b one other) (take kept (on_link world.links a b) ++ End ∷ [])
      (on_link world.links a b)) ++ End ∷ []) (cond (same_link a b one other) (take kept (on_link world.links a b) ++ End ∷ []) (on_link world.links a b))))
      (sym (on_both world.links one other End a b))
      (short_by (on_link world.links a b) (same_link a b one other) (same_link a b other one)
      (λ e f. apart (sym (same_names a b one other e).0 ∙ (same_names a b other one f).0))))

  whole_at : (a b : List ℕ) → is_broken broken_then a b ≡ false → on_link next.links a b ≡ on_link ended.links a b
  whole_at a b whole =
      let not = whole_parts a b whole in
      on_link-cut half other one a b kept_back End
      ∙ ap (λ s. cond s (take kept_back (on_link half a b) ++ End ∷ []) (on_link half a b)) not.0
      ∙ on_link-cut world.links one other a b kept End
      ∙ ap (λ s. cond s (take kept (on_link world.links a b) ++ End ∷ []) (on_link world.links a b)) not.1
      ∙ sym (another_both world.links one other End a b not.1 not.0)

  cut_thinned : IsThinned ended next
  cut_thinned = record {
    nodes = refl;
    disks = refl;
    clients = refl;
    broken = refl;
    marks = refl;
    steps = refl;
    short = short_at;
    whole = whole_at;
  }

  abbrev ended_law : KeepsLaw config heard ended
  ended_law = relinked_law config heard world ended ended_relinks law ended_feeds

  cut_so : KeepsBehind config law.story law.stops heard next
  cut_so =
      thinned_behind config heard ended next (apart_before me ended next refl refl (breaks_apart config next then)) cut_thinned ended_law

cuts_by : (config : Config) (heard : ℕ → Heard) (world : World) (law : KeepsLaw config heard world) (one other : List ℕ) (kept kept_back : ℕ) (may : Bool)
    → may_cut world one other ≡ may → LinksStand config world → LinksStand config (cuts_if may world one other kept kept_back)
    → KeepsBehind config law.story law.stops heard (cuts_if may world one other kept kept_back)
unfolding cuts_if
cuts_by config heard world law one other kept kept_back true e links then =
    cut_so config heard world law one other kept kept_back links then (cut_parted world one other e).1 (cut_whole world one other e)
cuts_by config heard world law one other kept kept_back false e links then =
    behind config law.story law.stops heard world (same_kept config heard heard world (λ conn. refl) law)

-- A LINK BREAKS
pub cut_keeps : (config : Config) (heard : ℕ → Heard) (world : World) (law : KeepsLaw config heard world) (one other : List ℕ) (kept kept_back : ℕ)
    → LinksStand config world → LinksStand config (cuts_if (may_cut world one other) world one other kept kept_back)
    → KeepsBehind config law.story law.stops heard (cuts_if (may_cut world one other) world one other kept kept_back)
cut_keeps config heard world law one other kept kept_back links then =
    cuts_by config heard world law one other kept kept_back (may_cut world one other) refl links then
