-- What a store has once a mailbox is deleted.
use Rattle.std.proofs.Common.{◌≡◌, ◌≢◌, ℕ, Bool, true, false, not, cond, List, [], ◌∷◌, None, Some, refl, sym, ◌∙◌, ap, subst}
use Rattle.std.specs.Prelude.{All, map}
use Rattle.std.specs.declared.cmp.Ordering.TheVariants.{Less}
use Rattle.std.specs.List.{AllByRecursion, filter}
use Rattle.std.specs.List.Sorted.{IsStrictlySortedBy}
use Rattle.std.specs.Map.{keys_of}
use Rattle.std.specs.Ordering.{is_eq, nat_cmp}
use Rattle.std.specs.Cmp.Lexicographic.{slice_cmp}
use Rattle.std.proofs.lemmas.List.Elements.{All-cons, All-head, All-tail}
use Rattle.std.proofs.lemmas.List.Kept.{IsStrictlySortedBy-filter}
use Rattle.mail_message.specs.Boxes.{Content}
use Rattle.mur_base.specs.Map.{value_at, without_key, IsInOrder}
use Rattle.mur_base.proofs.MapLaws.{names_apart, not_equal}
use Rattle.mur_model.specs.declared.store.Store.{Store}
use Rattle.mur_model.specs.Store.{box_at, without_box}

module _ (name : List ℕ) where
  abbrev others : List (List ℕ × Content) → List (List ℕ × Content)
  others boxes = filter (λ (entry : List ℕ × Content). not (is_eq (slice_cmp nat_cmp name entry.0))) boxes

  gone_by : (e : List ℕ × Content) (es : List (List ℕ × Content)) (same : Bool) → is_eq (slice_cmp nat_cmp name e.0) ≡ same
      → value_at (slice_cmp nat_cmp) (others es) name ≡ None → value_at (slice_cmp nat_cmp) (others (e ∷ es)) name ≡ None
  gone_by e es true h more = rw h more
  gone_by e es false h more = rw (h, h) more

  gone_from : (es : List (List ℕ × Content)) → value_at (slice_cmp nat_cmp) (others es) name ≡ None
  gone_from [] = refl
  gone_from (e ∷ es) = gone_by e es (is_eq (slice_cmp nat_cmp name e.0)) refl (gone_from es)

  stays_by : (e : List ℕ × Content) (es : List (List ℕ × Content)) (other : List ℕ) → other ≢ name → (same : Bool) → is_eq (slice_cmp nat_cmp name e.0) ≡ same
      → value_at (slice_cmp nat_cmp) (others es) other ≡ value_at (slice_cmp nat_cmp) es other
      → value_at (slice_cmp nat_cmp) (others (e ∷ es)) other ≡ value_at (slice_cmp nat_cmp) (e ∷ es) other
  stays_by e es other ne true h more =
      let apart : is_eq (slice_cmp nat_cmp other e.0) ≡ false =
      subst (λ n. is_eq (slice_cmp nat_cmp other n) ≡ false) (names_apart.exact name e.0 h) (not_equal (slice_cmp nat_cmp) names_apart other name ne) in
      rw (h, apart) more
  stays_by e es other ne false h more = rw h (ap (λ found. cond (is_eq (slice_cmp nat_cmp other e.0)) (Some e.1) found) more)

  stays_in : (es : List (List ℕ × Content)) (other : List ℕ) → other ≢ name
      → value_at (slice_cmp nat_cmp) (others es) other ≡ value_at (slice_cmp nat_cmp) es other
  stays_in [] other ne = refl
  stays_in (e ∷ es) other ne = stays_by e es other ne (is_eq (slice_cmp nat_cmp name e.0)) refl (stays_in es other ne)

  keys_by : (e : List ℕ × Content) (es : List (List ℕ × Content)) (same : Bool) → is_eq (slice_cmp nat_cmp name e.0) ≡ same
      → keys_of (others es) ≡ filter (λ k. not (is_eq (slice_cmp nat_cmp name k))) (keys_of es)
      → keys_of (others (e ∷ es)) ≡ filter (λ k. not (is_eq (slice_cmp nat_cmp name k))) (keys_of (e ∷ es))
  keys_by e es true h more = rw h more
  keys_by e es false h more = rw h (ap (λ keys. e.0 ∷ keys) more)

  keys_left : (es : List (List ℕ × Content)) → keys_of (others es) ≡ filter (λ k. not (is_eq (slice_cmp nat_cmp name k))) (keys_of es)
  keys_left [] = refl
  keys_left (e ∷ es) = keys_by e es (is_eq (slice_cmp nat_cmp name e.0)) refl (keys_left es)

  -- where another name is below all, it is none of them
  none_goes : (other : List ℕ) → is_eq (slice_cmp nat_cmp name other) ≡ true → (es : List (List ℕ × Content))
      → AllByRecursion (λ k. slice_cmp nat_cmp other k ≡ Less) (keys_of es) → others es ≡ es
  none_goes other same [] above = refl
  none_goes other same (e ∷ es) above =
      let less : slice_cmp nat_cmp name e.0 ≡ Less = subst (λ n. slice_cmp nat_cmp n e.0 ≡ Less) (sym (names_apart.exact name other same)) above.0 in
      rw less (ap (λ more. e ∷ more) (none_goes other same es above.1))

  removed_by : (e : List ℕ × Content) (es : List (List ℕ × Content)) (same : Bool) → is_eq (slice_cmp nat_cmp name e.0) ≡ same
      → AllByRecursion (λ k. slice_cmp nat_cmp e.0 k ≡ Less) (keys_of es) → without_key (slice_cmp nat_cmp) es name ≡ others es
      → without_key (slice_cmp nat_cmp) (e ∷ es) name ≡ others (e ∷ es)
  removed_by e es true h above more = rw h (sym (none_goes e.0 h es above))
  removed_by e es false h above more = rw h (ap (λ left. e ∷ left) more)

  removed_from : (es : List (List ℕ × Content)) → IsInOrder (slice_cmp nat_cmp) es → without_key (slice_cmp nat_cmp) es name ≡ others es
  unfolding IsStrictlySortedBy
  removed_from [] order = refl
  removed_from (e ∷ es) order = removed_by e es (is_eq (slice_cmp nat_cmp name e.0)) refl order.0 (removed_from es order.1)

  module _ {Y : Type 0} (f : List ℕ × Content → Y) (P : Y → Type 0) where
    each_in : (es : List (List ℕ × Content)) → All P (map f es) → All P (map f (others es))
    each_in [] all = all
    each_in (e ∷ es) all = by (is_eq (slice_cmp nat_cmp name e.0)) (each_in es (All-tail P (f e) (map f es) all))
      where
        by : (same : Bool) → All P (map f (others es)) → All P (map f (cond (not same) (e ∷ others es) (others es)))
        by true more = more
        by false more = All-cons P (f e) (map f (others es)) (All-head P (f e) (map f es) all) more

pub box_gone : (store : Store) (name : List ℕ) → box_at (without_box store name) name ≡ None
box_gone store name = gone_from name store.boxes

pub others_there : (store : Store) (name other : List ℕ) → other ≢ name → box_at (without_box store name) other ≡ box_at store other
others_there store name other ne = stays_in name store.boxes other ne

pub without_box-in_order : (store : Store) (name : List ℕ) → IsInOrder (slice_cmp nat_cmp) store.boxes
    → IsInOrder (slice_cmp nat_cmp) (without_box store name).boxes
without_box-in_order store name order =
    subst (IsStrictlySortedBy (slice_cmp nat_cmp)) (sym (keys_left name store.boxes))
    (IsStrictlySortedBy-filter (slice_cmp nat_cmp) (λ k. not (is_eq (slice_cmp nat_cmp name k))) (keys_of store.boxes) order)

-- names stand in order, so that one is taken out at most
pub one_goes : (store : Store) (boxes : List (List ℕ × Content)) (name : List ℕ) → IsInOrder (slice_cmp nat_cmp) store.boxes
    → boxes ≡ without_key (slice_cmp nat_cmp) store.boxes name → record store { boxes = boxes } ≡ without_box store name
one_goes store boxes name order is = ap (λ left. record store { boxes = left }) (is ∙ removed_from name store.boxes order)

-- what is so of all mailboxes is so of those that stay
pub each_left : {Y : Type 0} (f : List ℕ × Content → Y) (P : Y → Type 0) (store : Store) (name : List ℕ) → All P (map f store.boxes)
    → All P (map f (without_box store name).boxes)
each_left f P store name all = each_in name f P store.boxes all
