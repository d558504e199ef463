-- What a flow does is the same whatever deliveries were made before.
use Rattle.std.proofs.Common.{◌≡◌, ℕ, zero, suc, ◌==◌, Bool, true, false, List, [], ◌∷◌, ◌++◌, refl, sym, ◌∙◌, ap, subst, drop, arith, ◌-◌, ◌≢◌, length, get_or, ◌<◌, ◌+◌}
use Rattle.std.proofs.lemmas.Bool.{eqb-true, eq-eqb}
use Rattle.std.proofs.lemmas.List.{at_drop_more}
use Rattle.link_msg.specs.declared.message.LinkMsg.{LinkMsg}
use Rattle.mur_config.specs.declared.node.Link.{Link}
use Rattle.schedule_text.specs.declared.event.Event.{Event}
use Rattle.schedule_text.specs.declared.event.Event.TheVariants.{Deliver}
use Rattle.cluster_core.specs.declared.world.World.{World}
use Rattle.link_queue.specs.Links.{on_link}
use Rattle.cluster_core.specs.World.{steps_by}
use Rattle.cluster_core.specs.Flow.{Flowing, turn_by, turn_of_link, round, rounds, rounds_by}

-- the same world, and as many deliveries that may follow
pub record AreAlike (one other : Flowing) : Type 0 where
  pub world : one.world ≡ other.world
  pub left : one.left ≡ other.left

-- no delivery so far
abbrev pub begun : World → ℕ → Flowing
begun world left = record { world = world; made = []; left = left }

abbrev with_made : World → List Event → ℕ → Flowing
with_made world made left = record { world = world; made = made; left = left }

turn_alike : (link : Link) (links : List Link) (world : World) (made other : List Event) (left n : ℕ) (queue : List LinkMsg)
    → ((w : World) (m o : List Event) (l : ℕ) → AreAlike (round (with_made w m l) links) (round (with_made w o l) links))
    → AreAlike (round (turn_by (with_made world made left) link n queue) links) (round (turn_by (with_made world other left) link n queue) links)
unfolding turn_by
turn_alike link links world made other left zero queue ih = ih world made other left
turn_alike link links world made other left (suc n) [] ih = ih world made other left
turn_alike link links world made other left (suc n) (message ∷ queue) ih =
    ih (steps_by world (Deliver link.from link.to)) (made ++ Deliver link.from link.to ∷ []) (other ++ Deliver link.from link.to ∷ []) n

pub round_alike : (links : List Link) (world : World) (made other : List Event) (left : ℕ)
    → AreAlike (round (with_made world made left) links) (round (with_made world other left) links)
unfolding round turn_of_link
round_alike [] world made other left = record { world = refl; left = refl }
round_alike (link ∷ links) world made other left =
    turn_alike link links world made other left left (on_link world.links link.from link.to) (λ w m o l. round_alike links w m o l)

-- a round goes on from any flow as from one that has begun at its world
pub round_begun : (links : List Link) (flowing : Flowing) (world : World) (left : ℕ) → flowing.world ≡ world → flowing.left ≡ left
    → AreAlike (round flowing links) (round (begun world left) links)
round_begun links flowing world left w l =
    rw (← w, ← l) (round_alike links flowing.world flowing.made [] flowing.left)

by_alike : (b : Bool) (one other more further : Flowing) → one.world ≡ other.world → more.world ≡ further.world
    → (rounds_by b one more).world ≡ (rounds_by b other further).world
unfolding rounds_by
by_alike true one other more further w m = w
by_alike false one other more further w m = m

pub rounds_alike : (n : ℕ) (links : List Link) (one other : Flowing) → AreAlike one other → (rounds n links one).world ≡ (rounds n links other).world
unfolding rounds
rounds_alike zero links one other alike = alike.world
rounds_alike (suc n) links one other alike =
    let a = round_begun links one other.world other.left alike.world alike.left in
    let b = round_begun links other other.world other.left refl refl in
    let w = a.world ∙ sym b.world in
    let l = a.left ∙ sym b.left in
    let more = rounds_alike n links (round one links) (round other links) (record { world = w; left = l }) in
    let same : ((round one links).left == one.left) ≡ ((round other links).left == other.left) =
    ap (λ (x : ℕ). x == one.left) l ∙ ap (λ (x : ℕ). (round other links).left == x) alike.left in
    subst (λ b. (rounds_by b (round one links) (rounds n links (round one links))).world
    ≡ (rounds_by ((round other links).left == other.left) (round other links) (rounds n links (round other links))).world)
    (sym same)
    (by_alike ((round other links).left == other.left) (round one links) (round other links) (rounds n links (round one links))
    (rounds n links (round other links)) w more)

-- behind the turn of the first link
pub turned : (link : Link) (links : List Link) (world next : World) (left later : ℕ)
    → (turn_of_link (begun world left) link).world ≡ next → (turn_of_link (begun world left) link).left ≡ later
    → AreAlike (round (begun world left) (link ∷ links)) (round (begun next later) links)
unfolding round
turned link links world next left later w l = round_begun links (turn_of_link (begun world left) link) next later w l

-- a link more of a round is over
pub round_goes_on : (all rest : List Link) (link : Link) (world next : World) (left later : ℕ) (end : Flowing) → all ≡ link ∷ rest
    → (turn_of_link (begun world left) link).world ≡ next → (turn_of_link (begun world left) link).left ≡ later
    → AreAlike (round (begun world left) all) end → AreAlike (round (begun next later) rest) end
round_goes_on all rest link world next left later end e w l alike =
    let t = turned link rest world next left later w l in
    let a = subst (λ x. AreAlike (round (begun world left) x) end) e alike in
    record { world = sym t.world ∙ a.world; left = sym t.left ∙ a.left }

-- another round follows one that made a delivery
pub flow_goes_on : (n : ℕ) (links : List Link) (world next : World) (left later : ℕ) → (round (begun world left) links).world ≡ next
    → (round (begun world left) links).left ≡ later → (later == left) ≡ false
    → (rounds (suc n) links (begun world left)).world ≡ (rounds n links (begun next later)).world
unfolding rounds rounds_by
flow_goes_on n links world next left later w l apart =
    let differs : ((round (begun world left) links).left == left) ≡ false = ap (λ (x : ℕ). x == left) l ∙ apart in
    rw differs (rounds_alike n links (round (begun world left) links) (begun next later) (record { world = w; left = l }))

-- none follows one that made no delivery
pub flow_stops : (n : ℕ) (links : List Link) (world next : World) (left later : ℕ) → (round (begun world left) links).world ≡ next
    → (round (begun world left) links).left ≡ later → (later == left) ≡ true → (rounds (suc n) links (begun world left)).world ≡ next
unfolding rounds rounds_by
flow_stops n links world next left later w l same =
    let equal : ((round (begun world left) links).left == left) ≡ true = ap (λ (x : ℕ). x == left) l ∙ same in
    rw equal w

pub item_at : {X : Type 0} (xs : List X) (i : ℕ) (x : X) → i < length xs → x ≡ get_or xs i x → drop i xs ≡ x ∷ drop (i + 1) xs
item_at {X} xs i x h is = at_drop_more (λ items. items) xs i x h ∙ ap (λ (y : X). y ∷ drop (i + 1) xs) (sym is)

equal_or : (a c : ℕ) (b : Bool) → (a == c) ≡ b → a ≢ c → b ≡ false
equal_or a c true h ne = absurd (ne (eqb-true a c h))
equal_or a c false h ne = refl

equal_by : (a c : ℕ) (b : Bool) → (a == c) ≡ b → a ≡ c → b ≡ true
equal_by a c true h e = refl
equal_by a c false h e = let no : true ≡ false = sym (eq-eqb a c e) ∙ h in cc

one_more : (count r : ℕ) → r < count → count - r ≡ suc (count - (r + 1))
one_more count r h = omega (arith, h)

pub flow_over : (count r : ℕ) (pairs used : List Link) (world next end : World) (left later : ℕ) → r < count → used ≡ pairs
    → (round (begun world left) used).world ≡ next → (round (begun world left) used).left ≡ later → later ≢ left
    → (rounds (count - r) pairs (begun world left)).world ≡ end → (rounds (count - (r + 1)) pairs (begun next later)).world ≡ end
flow_over count r pairs used world next end left later h u w l apart flows =
    let to_end = subst (λ n. (rounds n pairs (begun world left)).world ≡ end) (one_more count r h) flows in
    sym (flow_goes_on (count - (r + 1)) pairs world next left later (subst (λ x. (round (begun world left) x).world ≡ next) u w)
    (subst (λ x. (round (begun world left) x).left ≡ later) u l) (equal_or later left _ refl apart)) ∙ to_end

pub flow_over_now : (count r : ℕ) (pairs used : List Link) (world next end : World) (left later : ℕ) → r < count → used ≡ pairs
    → (round (begun world left) used).world ≡ next → (round (begun world left) used).left ≡ later → later ≡ left
    → (rounds (count - r) pairs (begun world left)).world ≡ end → next ≡ end
flow_over_now count r pairs used world next end left later h u w l same flows =
    let to_end = subst (λ n. (rounds n pairs (begun world left)).world ≡ end) (one_more count r h) flows in
    sym (flow_stops (count - (r + 1)) pairs world next left later (subst (λ x. (round (begun world left) x).world ≡ next) u w)
    (subst (λ x. (round (begun world left) x).left ≡ later) u l) (equal_by later left _ refl same)) ∙ to_end

none_left : (pairs : List Link) (world : World) (left : ℕ) → (rounds zero pairs (begun world left)).world ≡ world
unfolding rounds
none_left pairs world left = refl

pub flow_ends : (n : ℕ) (pairs : List Link) (world end : World) (left : ℕ) → n ≡ 0 → (rounds n pairs (begun world left)).world ≡ end → world ≡ end
flow_ends n pairs world end left none flows =
    sym (none_left pairs world left) ∙ subst (λ m. (rounds m pairs (begun world left)).world ≡ end) none flows
