-- A world of which messages are gone that were on broken links: each queue has what it had, in its order, but for some messages that stood together, with End
-- alone behind them, and a link that isn't broken has all.
use Rattle.std.proofs.Common.{◌≡◌, ℕ, Bool, true, false, cond, List, [], ◌∷◌, Option, None, Some, filter, refl, sym, ◌∙◌, ap}
use Rattle.cluster_core.specs.declared.world.World.{World}
use Rattle.feed_links.proofs.Parts.{IsCutShort, IsPart, cut_part, has_it, is_none, lacks_it, nothing_lost}
use Rattle.link_queue.proofs.Placed.{Carried, IsFound}
use Rattle.link_queue.proofs.Wires.{same_itself, same_names}
use Rattle.link_queue.specs.Broken.{is_broken}
use Rattle.link_queue.specs.Links.{Links, on_link, same_link}

-- ---- a part of a list, in its order

module _ {M : Type 0} where
  -- of a kind
  has_by : (is : M → Bool) (x : M) (own : Bool) → is x ≡ own → (part whole : List M) → IsPart (filter is part) (filter is whole)
      → IsPart (filter is (x ∷ part)) (filter is (x ∷ whole))
  has_by is x true e part whole more = rw e (has_it x more)
  has_by is x false e part whole more = rw e more

  lacks_by : (is : M → Bool) (x : M) (own : Bool) → is x ≡ own → (part whole : List M) → IsPart (filter is part) (filter is whole)
      → IsPart (filter is part) (filter is (x ∷ whole))
  lacks_by is x true e part whole more = rw e (lacks_it x more)
  lacks_by is x false e part whole more = rw e more

  pub kind_of_part : (is : M → Bool) {part whole : List M} → IsPart part whole → IsPart (filter is part) (filter is whole)
  kind_of_part is is_none = is_none
  kind_of_part is (has_it x {part = part} {whole = whole} more) = has_by is x (is x) refl part whole (kind_of_part is more)
  kind_of_part is (lacks_it x {part = part} {whole = whole} more) = lacks_by is x (is x) refl part whole (kind_of_part is more)

  -- of nothing and of one
  pub part_of_none : {part whole : List M} → IsPart part whole → whole ≡ [] → part ≡ []
  part_of_none is_none e = refl
  part_of_none (has_it x is) e = cc
  part_of_none (lacks_it x is) e = cc

  pub data IsNoneOrOne (message : M) (part : List M) : Type 0 where
    is_gone : part ≡ [] → IsNoneOrOne message part
    is_here : part ≡ message ∷ [] → IsNoneOrOne message part

  pub part_of_one : (message : M) {part whole : List M} → IsPart part whole → whole ≡ message ∷ [] → IsNoneOrOne message part
  part_of_one message is_none e = is_gone refl
  part_of_one message (has_it x {part = part} is) e =
      let same : x ≡ message = cc in
      let none : part ≡ [] = part_of_none is (let left : _ ≡ [] = cc in left) in
      is_here (ap (λ m. m ∷ part) same ∙ ap (λ l. message ∷ l) none)
  part_of_one message (lacks_it x is) e = is_gone (part_of_none is (let left : _ ≡ [] = cc in left))

-- ---- worlds

-- all but the links is as it was, and of the links a part is left: all that was on a link that isn't broken
pub record IsThinned (world next : World) : Type 0 where
  pub nodes : next.nodes ≡ world.nodes
  pub disks : next.disks ≡ world.disks
  pub clients : next.clients ≡ world.clients
  pub broken : next.broken ≡ world.broken
  pub marks : next.marks ≡ world.marks
  pub steps : next.steps ≡ world.steps
  pub short : (a b : List ℕ) → IsCutShort (on_link next.links a b) (on_link world.links a b)
  pub whole : (a b : List ℕ) → is_broken world.broken a b ≡ false → on_link next.links a b ≡ on_link world.links a b

pub same_thinned : (world : World) → IsThinned world world
same_thinned world = record {
  nodes = refl;
  disks = refl;
  clients = refl;
  broken = refl;
  marks = refl;
  steps = refl;
  short = λ a b. nothing_lost (on_link world.links a b);
  whole = λ a b e. refl;
}

pub parts_of : (world next : World) → IsThinned world next → (a b : List ℕ) → IsPart (on_link next.links a b) (on_link world.links a b)
parts_of world next thin a b = cut_part (on_link next.links a b) (on_link world.links a b) (thin.short a b)

-- ---- the one message of a kind

-- it is still on its way, or it was on a broken link and is gone
pub data IsFoundThen {M : Type 0} (is : M → Bool) (next : Links M) (lost : List ℕ → List ℕ → Bool) (found : Option (Carried M)) : Type 0 where
  still_found : IsFound is next found → IsFoundThen is next lost found
  is_lost : (it : Carried M) → found ≡ Some it → lost it.from it.to ≡ true → IsFound is next None → IsFoundThen is next lost found

module _ {M : Type 0} (is : M → Bool) (links next : Links M) (lost : List ℕ → List ℕ → Bool)
    (parts : (a b : List ℕ) → IsPart (on_link next a b) (on_link links a b))
    (whole : (a b : List ℕ) → lost a b ≡ false → on_link next a b ≡ on_link links a b) where
  none_elsewhere : (it : Carried M) → IsFound is links (Some it) → (a b : List ℕ) → same_link a b it.from it.to ≡ false → filter is (on_link next a b) ≡ []
  none_elsewhere it placed a b ne =
      part_of_none (kind_of_part is (parts a b)) (placed a b ∙ ap (λ s. cond s (it.message ∷ []) []) ne)

  left_by : (it : Carried M) → IsFound is links (Some it) → (left : List M) → filter is (on_link next it.from it.to) ≡ left
      → (a b : List ℕ) (same : Bool) → same_link a b it.from it.to ≡ same → filter is (on_link next a b) ≡ cond same left []
  left_by it placed left e a b true h =
      let at = same_names a b it.from it.to h in
      ap (λ x. filter is (on_link next x b)) at.0 ∙ ap (λ x. filter is (on_link next it.from x)) at.1 ∙ e
  left_by it placed left e a b false h = none_elsewhere it placed a b h

  nothing_by : (same : Bool) (none : List M) → none ≡ [] → cond same none [] ≡ []
  nothing_by true none e = e
  nothing_by false none e = refl

  by_lost : (it : Carried M) → IsFound is links (Some it) → IsNoneOrOne it.message (filter is (on_link next it.from it.to))
      → (broken : Bool) → lost it.from it.to ≡ broken → IsFoundThen is next lost (Some it)
  by_lost it placed (is_here e) broken h =
      still_found (λ a b. left_by it placed (it.message ∷ []) e a b (same_link a b it.from it.to) refl)
  by_lost it placed (is_gone e) true h =
      is_lost it refl h (λ a b. left_by it placed [] e a b (same_link a b it.from it.to) refl ∙ nothing_by (same_link a b it.from it.to) [] refl)
  by_lost it placed (is_gone e) false h =
      absurd (let no : [] ≡ it.message ∷ [] = sym e ∙ ap (filter is) (whole it.from it.to h) ∙ placed it.from it.to
      ∙ ap (λ s. cond s (it.message ∷ []) []) (same_itself it.from it.to) in cc)

  pub found_then : (found : Option (Carried M)) → IsFound is links found → IsFoundThen is next lost found
  found_then None placed = still_found (λ a b. part_of_none (kind_of_part is (parts a b)) (placed a b))
  found_then (Some it) placed =
      by_lost it placed
      (part_of_one it.message (kind_of_part is (parts it.from it.to)) (placed it.from it.to ∙ ap (λ s. cond s (it.message ∷ []) []) (same_itself it.from it.to)))
      (lost it.from it.to) refl
