-- A map stays in the order of its keys.
use Rattle.std.proofs.Common.{◌≡◌, Bool, true, false, List, [], ◌∷◌, refl, sym, ◌∙◌, ap, subst}
use Rattle.std.specs.Prelude.{All}
use Rattle.std.specs.List.Sorted.{IsStrictlySortedBy}
use Rattle.std.specs.declared.cmp.Ordering.{Ordering}
use Rattle.std.specs.declared.cmp.Ordering.TheVariants.{Less, Equal, Greater}
use Rattle.std.specs.Ordering.{is_eq, match_ordering, ordering_reverse}
use Rattle.std.specs.Cmp.{IsTotalOrder}
use Rattle.std.specs.BTreeMap.{insert_entry}
use Rattle.std.specs.Map.{keys_of}
use Rattle.std.proofs.lemmas.List.Elements.{All-weaker, All-cons, recursion_from_All}
use Rattle.std.proofs.lemmas.Map.Views.{All-keys-insert_entry, All-after_first}
use Rattle.mur_base.specs.Map.{with_entry, with_value, IsInOrder}

module _ {K : Type 0} (cmp : K → K → Ordering) (order : IsTotalOrder cmp) where
  -- a key below the first is below all
  below_all : (k first : K) (ks : List K) → cmp k first ≡ Less → IsStrictlySortedBy cmp (first ∷ ks) → All (λ q. cmp k q ≡ Less) (first ∷ ks)
  below_all k first ks h sorted =
      All-cons (λ q. cmp k q ≡ Less) first ks h
      (All-weaker (λ q. cmp first q ≡ Less) (λ q. cmp k q ≡ Less) (λ q l. order.trans k first q h l) ks (All-after_first cmp first ks sorted))

module _ {K X : Type 0} (cmp : K → K → Ordering) (order : IsTotalOrder cmp) where
  in_order_by : (e : K × X) (es : List (K × X)) (k : K) (v : X) → IsStrictlySortedBy cmp (keys_of (e ∷ es))
      → IsStrictlySortedBy cmp (keys_of (insert_entry cmp es k v))
      → (o : Ordering) → cmp k e.0 ≡ o
      → IsStrictlySortedBy cmp (keys_of (match_ordering o ((k, v) ∷ e ∷ es) ((e.0, v) ∷ es) (e ∷ insert_entry cmp es k v)))
  unfolding IsStrictlySortedBy
  in_order_by e es k v sorted later Less h =
      (recursion_from_All (λ q. cmp k q ≡ Less) (keys_of (e ∷ es)) (below_all cmp order k e.0 (keys_of es) h sorted), sorted)
  in_order_by e es k v sorted later Equal h = sorted
  in_order_by e es k v sorted later Greater h = (
    recursion_from_All (λ q. cmp e.0 q ≡ Less) (keys_of (insert_entry cmp es k v))
        (All-keys-insert_entry cmp k v (λ q. cmp e.0 q ≡ Less) es (All-after_first cmp e.0 (keys_of es) sorted)
        (order.antisymm e.0 k ∙ ap ordering_reverse h)),
    later,
  )

  -- an entry more keeps the order
  pub with_entry-in_order : (es : List (K × X)) (k : K) (v : X) → IsInOrder cmp es → IsInOrder cmp (with_entry cmp es k v)
  unfolding IsStrictlySortedBy
  with_entry-in_order [] k v sorted = (tt, tt)
  with_entry-in_order (e ∷ es) k v sorted = in_order_by e es k v sorted (with_entry-in_order es k v sorted.1) (cmp k e.0) refl

module _ {K X : Type 0} (cmp : K → K → Ordering) where
  keys_by : (e : K × X) (es : List (K × X)) (k : K) (v : X) → keys_of (with_value cmp es k v) ≡ keys_of es
      → (b : Bool) → is_eq (cmp k e.0) ≡ b → keys_of (with_value cmp (e ∷ es) k v) ≡ keys_of (e ∷ es)
  keys_by e es k v ih true h = rw h refl
  keys_by e es k v ih false h = rw h (ap (λ keys. e.0 ∷ keys) ih)

  -- another value leaves the keys
  pub keys-with_value : (es : List (K × X)) (k : K) (v : X) → keys_of (with_value cmp es k v) ≡ keys_of es
  keys-with_value [] k v = refl
  keys-with_value (e ∷ es) k v = keys_by e es k v (keys-with_value es k v) (is_eq (cmp k e.0)) refl

  -- so it keeps the order
  pub with_value-in_order : (es : List (K × X)) (k : K) (v : X) → IsInOrder cmp es → IsInOrder cmp (with_value cmp es k v)
  with_value-in_order es k v sorted = subst (IsStrictlySortedBy cmp) (sym (keys-with_value es k v)) sorted
