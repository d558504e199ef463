-- An entry that is there takes another value in its place.
use Rattle.std.proofs.Common.{◌≡◌, cond, List, [], ◌∷◌, None, Some, refl, sym, ◌∙◌, ap, ℕ}
use Rattle.std.specs.Prelude.{All}
use Rattle.std.specs.List.Sorted.{IsStrictlySortedBy}
use Rattle.std.specs.declared.cmp.Ordering.{Ordering}
use Rattle.std.specs.declared.cmp.Ordering.TheVariants.{Less, Equal, Greater}
use Rattle.std.specs.Ordering.{is_eq, match_ordering, nat_cmp}
use Rattle.std.specs.Cmp.{IsTotalOrder}
use Rattle.std.specs.Cmp.Lexicographic.{slice_cmp}
use Rattle.std.specs.BTreeMap.{insert_entry}
use Rattle.std.specs.Map.{keys_of}
use Rattle.std.proofs.lemmas.Cmp.{nat_list_cmp_total}
use Rattle.std.proofs.lemmas.List.Elements.{All-head, All-tail, All-weaker}
use Rattle.std.proofs.lemmas.Map.Steps.{set_value_same}
use Rattle.std.proofs.lemmas.Map.Views.{All-after_first}
use Rattle.mur_base.specs.Map.{value_at, with_entry, with_value, IsInOrder}

module _ {K X : Type 0} (cmp : K → K → Ordering) (order : IsTotalOrder cmp) where
  none_below : (es : List (K × X)) (k : K) → All (λ q. cmp k q ≡ Less) (keys_of es) → value_at cmp es k ≡ None
  none_below [] k below = refl
  none_below (e ∷ es) k below =
      rw (All-head (λ q. cmp k q ≡ Less) e.0 (keys_of es) below) (none_below es k (All-tail (λ q. cmp k q ≡ Less) e.0 (keys_of es) below))

  entered_by : (e : K × X) (es : List (K × X)) (k : K) (v old : X) → IsInOrder cmp (e ∷ es)
      → (value_at cmp es k ≡ Some old → with_entry cmp es k v ≡ with_value cmp es k v)
      → (o : Ordering) → cmp k e.0 ≡ o → cond (is_eq o) (Some e.1) (value_at cmp es k) ≡ Some old
      → match_ordering o ((k, v) ∷ e ∷ es) ((e.0, v) ∷ es) (e ∷ insert_entry cmp es k v) ≡ cond (is_eq o) ((e.0, v) ∷ es) (e ∷ with_value cmp es k v)
  entered_by e es k v old sorted ih Less h there =
      let none = none_below es k (All-weaker (λ q. cmp e.0 q ≡ Less) (λ q. cmp k q ≡ Less) (λ q l. order.trans k e.0 q h l) (keys_of es)
      (All-after_first cmp e.0 (keys_of es) sorted)) in
      let no : None ≡ Some old = sym none ∙ there in cc
  entered_by e es k v old sorted ih Equal h there = refl
  entered_by e es k v old sorted ih Greater h there = ap (λ more. e ∷ more) (ih there)

  pub entered : (es : List (K × X)) (k : K) (v old : X) → IsInOrder cmp es → value_at cmp es k ≡ Some old → with_entry cmp es k v ≡ with_value cmp es k v
  unfolding IsStrictlySortedBy
  entered [] k v old sorted there = cc
  entered (e ∷ es) k v old sorted there =
      entered_by e es k v old sorted (λ found. entered es k v old sorted.1 found) (cmp k e.0) refl there

pub entered_name : {X : Type 0} (es : List (List ℕ × X)) (k : List ℕ) (v old : X) → IsInOrder (slice_cmp nat_cmp) es
    → value_at (slice_cmp nat_cmp) es k ≡ Some old
    → with_value (slice_cmp nat_cmp) es k v ≡ with_entry (slice_cmp nat_cmp) es k v
entered_name es k v old sorted there = sym (entered (slice_cmp nat_cmp) nat_list_cmp_total es k v old sorted there)

pub ruleset by_entry = (entered_name, set_value_same)
