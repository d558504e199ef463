-- A heal joins links that may come up, until none may any more.
use Rattle.std.proofs.Common.{◌≡◌, ◌||◌, ◌&&◌, Bool, true, false, cond, List, [], ◌∷◌, ◌++◌, refl, sym, ◌∙◌, ap, subst, arith, ℕ, All, Contains}
use Rattle.std.proofs.lemmas.List.Elements.{All-cons, All-contains, All-nil, Contains-append_right}
use Rattle.link_msg.specs.declared.message.LinkMsg.{LinkMsg}
use Rattle.link_queue.specs.Broken.{is_broken}
use Rattle.link_queue.specs.Links.{on_link, same_link}
use Rattle.link_queue.proofs.Wires.{same_itself}
use Rattle.mur_config.specs.declared.node.Link.{Link}
use Rattle.schedule_text.specs.declared.event.Event.{Event}
use Rattle.schedule_text.specs.declared.event.Event.TheVariants.{Join}
use Rattle.cluster_core.specs.declared.layout.Layout.{Layout}
use Rattle.cluster_core.specs.declared.world.World.{World}
use Rattle.cluster_core.specs.Flow.{Healing, heal, heal_by, heal_link, heal_links, joined, run_steps}
use Rattle.cluster_core.specs.Headline.FlowLaw.{IsHeal, JoinsOne}
use Rattle.cluster_core.specs.Headline.OneNode.{OnlyLinksChange, are_both, relinked, up_on}
use Rattle.cluster_core.specs.World.{is_nothing, joins_if, may_join, steps_by, stepped, takes, with_join}
use Rattle.cluster_core.proofs.Runs.OneNodeLaw.{join_works}
use Rattle.cluster_core.proofs.Runs.Unrolled.{join_made}

-- ---- a link that may not come up may not behind others either

nothing_before : (queue more : List LinkMsg) → is_nothing (queue ++ more) ≡ true → is_nothing queue ≡ true
unfolding is_nothing
nothing_before [] more e = refl
nothing_before (message ∷ queue) more e = cc

was_broken : (same was : Bool) → cond same false was ≡ true → was ≡ true
was_broken true was e = cc
was_broken false was e = e

nothing_was : (one other from to : List ℕ) (queue : List LinkMsg) → is_nothing (relinked (Join one other) from to queue) ≡ true → is_nothing queue ≡ true
nothing_was one other from to queue e = nothing_before queue (up_on one other from to) (nothing_before (queue ++ up_on one other from to) (up_on other one from to) e)

-- none of three tests comes true
falls : (a b c one two three : Bool) → (one ≡ true → a ≡ true) → (two ≡ true → b ≡ true) → (three ≡ true → c ≡ true) → ((a && b) && c) ≡ false
    → ((one && two) && three) ≡ false
falls a b c false two three x y z e = refl
falls a b c true false three x y z e = refl
falls a b c true true false x y z e = refl
falls a b c true true true x y z e =
    subst (λ t. ((true && true) && t) ≡ false) (z refl) (subst (λ t. ((true && t) && c) ≡ false) (y refl) (subst (λ t. ((t && b) && c) ≡ false) (x refl) e))

changes : (world : World) (one other : List ℕ) → OnlyLinksChange (Join one other) world (with_join world one other)
unfolding joins_if
changes world one other = join_works world one other true

still_none : (world : World) (one other from to : List ℕ) → may_join world from to ≡ false → may_join (with_join world one other) from to ≡ false
unfolding may_join
still_none world one other from to none =
    let now = changes world one other in
    falls (is_broken world.broken from to) (is_nothing (on_link world.links from to)) (is_nothing (on_link world.links to from))
    (is_broken (with_join world one other).broken from to) (is_nothing (on_link (with_join world one other).links from to))
    (is_nothing (on_link (with_join world one other).links to from))
    (λ e. was_broken (are_both one other from to) (is_broken world.broken from to) (sym (now.broken from to) ∙ e))
    (λ e. nothing_was one other from to (on_link world.links from to) (sym (ap is_nothing (now.queues from to)) ∙ e))
    (λ e. nothing_was one other to from (on_link world.links to from) (sym (ap is_nothing (now.queues to from)) ∙ e)) none

-- a link that was joined may not
none_joined : (world : World) (one other : List ℕ) → may_join (with_join world one other) one other ≡ false
unfolding may_join
none_joined world one other =
    let now = changes world one other in
    let whole : is_broken (with_join world one other).broken one other ≡ false =
    now.broken one other ∙ ap (λ t. cond (t || same_link one other other one) false (is_broken world.broken one other)) (same_itself one other) in
    ap (λ b. (b && is_nothing (on_link (with_join world one other).links one other)) && is_nothing (on_link (with_join world one other).links other one)) whole

joins_by : (world : World) (one other : List ℕ) → may_join world one other ≡ true → steps_by world (Join one other) ≡ with_join (stepped world) one other
unfolding takes may_join joins_if
joins_by world one other may = ap (λ b. joins_if b (stepped world) one other) may

same_may : (world : World) (one other : List ℕ) → may_join (stepped world) one other ≡ may_join world one other
unfolding may_join
same_may world one other = refl

abbrev IsDone : World → Link → Type 0
IsDone world link = may_join world link.from link.to ≡ false

one_stays : (healing : Healing) (link : Link) (may : Bool) (from to : List ℕ) → may_join healing.world link.from link.to ≡ may
    → may_join healing.world from to ≡ false → may_join (heal_by may healing link).world from to ≡ false
unfolding heal_by
one_stays healing link true from to e none =
    ap (λ w. may_join w from to) (joins_by healing.world link.from link.to e)
    ∙ still_none (stepped healing.world) link.from link.to from to (same_may healing.world from to ∙ none)
one_stays healing link false from to e none = none

all_stay : (links : List Link) (healing : Healing) (from to : List ℕ) → may_join healing.world from to ≡ false
    → may_join (heal_links healing links).world from to ≡ false
unfolding heal_links heal_link
all_stay [] healing from to none = none
all_stay (link ∷ links) healing from to none =
    all_stay links (heal_link healing link) from to (one_stays healing link (may_join healing.world link.from link.to) from to refl none)

one_done : (healing : Healing) (link : Link) (may : Bool) → may_join healing.world link.from link.to ≡ may → IsDone (heal_by may healing link).world link
unfolding heal_by
one_done healing link true e =
    ap (λ w. may_join w link.from link.to) (joins_by healing.world link.from link.to e) ∙ none_joined (stepped healing.world) link.from link.to
one_done healing link false e = e

all_done : (links : List Link) (healing : Healing) → All (IsDone (heal_links healing links).world) links
unfolding heal_links heal_link
all_done [] healing = All-nil (IsDone healing.world)
all_done (link ∷ links) healing =
    All-cons (IsDone (heal_links (heal_link healing link) links).world) link links
    (all_stay links (heal_link healing link) link.from link.to (one_done healing link (may_join healing.world link.from link.to) refl))
    (all_done links (heal_link healing link))

-- ---- each step joins a link that may come up

abbrev JoinsEach : List Link → World → List Event → Type 0
JoinsEach links world steps = (before : List Event) (step : Event) (later : List Event) → steps ≡ before ++ step ∷ later
    → JoinsOne links (run_steps world before) step

not_none : (before : List Event) (step : Event) (later : List Event) → [] ≡ before ++ step ∷ later → ⊥
not_none [] step later e = cc
not_none (first ∷ before) step later e = cc

one_more : (links : List Link) (world : World) (steps : List Event) (last : Event) → JoinsEach links world steps → JoinsOne links (run_steps world steps) last
    → (before : List Event) (step : Event) (later : List Event) → steps ++ last ∷ [] ≡ before ++ step ∷ later → JoinsOne links (run_steps world before) step
unfolding run_steps
one_more links world [] last each is [] step later e = let same : last ≡ step = cc in subst (JoinsOne links world) same is
one_more links world [] last each is (first ∷ before) step later e =
    absurd (let none : [] ≡ before ++ step ∷ later = cc in not_none before step later none)
one_more links world (event ∷ steps) last each is [] step later e =
    let same : event ≡ step = cc in subst (JoinsOne links world) same (each [] event steps refl)
one_more links world (event ∷ steps) last each is (first ∷ before) step later e =
    let same : event ≡ first = cc in
    let rest : steps ++ last ∷ [] ≡ before ++ step ∷ later = cc in
    subst (λ x. JoinsOne links (run_steps (steps_by world x) before) step) same
    (one_more links (steps_by world event) steps last (λ b s l h. each (event ∷ b) s l (ap (λ x. event ∷ x) h)) is before step later rest)

-- a heal so far
record IsHealing (links : List Link) (world : World) (healing : Healing) : Type 0 where
  steps : healing.world ≡ run_steps world healing.made
  each : JoinsEach links world healing.made

made_one : (world : World) (healing : Healing) (link : Link) → healing.world ≡ run_steps world healing.made
    → (joined healing (Join link.from link.to)).world ≡ run_steps world (joined healing (Join link.from link.to)).made
unfolding heal_by
made_one world healing link e = join_made world healing link true e

heals_one : (links : List Link) (world : World) (healing : Healing) (link : Link) (may : Bool) → Contains links link
    → may_join healing.world link.from link.to ≡ may
    → IsHealing links world healing → IsHealing links world (heal_by may healing link)
unfolding heal_by
heals_one links world healing link true among e is =
    let here : JoinsOne links (run_steps world healing.made) (Join link.from link.to) =
    subst (λ w. JoinsOne links w (Join link.from link.to)) is.steps (record { link = link; among = among; joins = refl; may = e }) in
    record {
      steps = made_one world healing link is.steps;
      each = one_more links world healing.made (Join link.from link.to) is.each here;
    }
heals_one links world healing link false among e is = is

heals_all : (links some : List Link) (world : World) (healing : Healing) → ((link : Link) → Contains some link → Contains links link)
    → IsHealing links world healing → IsHealing links world (heal_links healing some)
unfolding heal_links heal_link
heals_all links [] world healing within is = is
heals_all links (link ∷ some) world healing within is =
    let among = within link (0, omega arith, refl) in
    heals_all links some world (heal_link healing link) (λ other there. within other (Contains-append_right (link ∷ []) some other there))
    (heals_one links world healing link (may_join healing.world link.from link.to) among refl is)

pub is_heal : (layout : Layout) (world : World) → IsHeal layout.pairs world (heal layout world).made
unfolding heal run_steps
is_heal layout world =
    let start : Healing = record { world = world; made = [] } in
    let healed = heals_all layout.pairs layout.pairs world start (λ link there. there)
    (record { steps = refl; each = λ before step later e. absurd (not_none before step later e) }) in
    record {
      each = healed.each;
      all = λ link among. subst (λ w. may_join w link.from link.to ≡ false) healed.steps
          (All-contains (IsDone (heal_links start layout.pairs).world) layout.pairs link (all_done layout.pairs start) among);
    }
