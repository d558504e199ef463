-- Maps by number: a key that goes, and the test whether two numbers are one.
use Rattle.std.proofs.Common.{◌≡◌, ◌≢◌, ℕ, Bool, true, false, nat_eq, cond, List, [], ◌∷◌, None, ap, ◌∙◌, arith}
use Rattle.std.specs.declared.cmp.Ordering.TheVariants.{Less}
use Rattle.std.specs.BTreeMap.{is_at}
use Rattle.std.specs.Cmp.{eq_by_cmp_equiv}
use Rattle.std.specs.List.{AllByRecursion}
use Rattle.std.specs.List.Sorted.{IsStrictlySortedBy}
use Rattle.std.specs.Map.{keys_of}
use Rattle.std.specs.Ordering.{is_eq, nat_cmp}
use Rattle.std.proofs.lemmas.Bool.Decides.{nat_tests}
use Rattle.std.proofs.lemmas.Cmp.{nat_cmp_total}
use Rattle.std.proofs.lemmas.Map.{lookup-remove_entry}
use Rattle.std.proofs.lemmas.Map.Keys.{IsDistinct-from_sorted}
use Rattle.mur_base.specs.Map.{value_at, without_key, IsInOrder}
use Rattle.mur_base.proofs.MapLaws.{numbers_apart}

pub same_number : (n : ℕ) → nat_eq n n ≡ true
same_number n = grind (arith, nat_tests)

pub other_number : (n other : ℕ) → n ≢ other → nat_eq n other ≡ false
other_number n other ne = grind (arith, nat_tests)

module _ {X : Type 0} where
  found_without : (es : List (ℕ × X)) (k q : ℕ) → IsInOrder nat_cmp es
      → value_at nat_cmp (without_key nat_cmp es k) q ≡ cond (is_eq (nat_cmp k q)) None (value_at nat_cmp es q)
  found_without es k q order =
      lookup-remove_entry (eq_by_cmp_equiv nat_cmp_total) (is_at (nat_cmp k)) (λ x y h. ap (λ z. is_eq (nat_cmp z y)) (numbers_apart.exact k x h)) q es
      (IsDistinct-from_sorted nat_cmp (keys_of es) order)

  -- a key that went isn't found any more
  pub gone : (es : List (ℕ × X)) (k : ℕ) → IsInOrder nat_cmp es → value_at nat_cmp (without_key nat_cmp es k) k ≡ None
  gone es k order = found_without es k k order ∙ ap (λ b. cond b None (value_at nat_cmp es k)) (numbers_apart.itself k)

  AreAbove : ℕ → List (ℕ × X) → Type 0
  AreAbove k es = AllByRecursion (λ q. nat_cmp k q ≡ Less) (keys_of es)

  above_by : (k : ℕ) (e : ℕ × X) (es rest : List (ℕ × X)) (b : Bool) → AreAbove k (e ∷ es) → AreAbove k rest → AreAbove k (cond b es (e ∷ rest))
  unfolding AreAbove
  above_by k e es rest true all more = all.1
  above_by k e es rest false all more = (all.0, more)

  above_kept : (k gone : ℕ) (es : List (ℕ × X)) → AreAbove k es → AreAbove k (without_key nat_cmp es gone)
  unfolding AreAbove
  above_kept k gone [] all = tt
  above_kept k gone (e ∷ es) all = above_by k e es (without_key nat_cmp es gone) (is_eq (nat_cmp gone e.0)) all (above_kept k gone es all.1)

  order_by : (e : ℕ × X) (es rest : List (ℕ × X)) (b : Bool) → IsInOrder nat_cmp (e ∷ es) → AreAbove e.0 rest → IsInOrder nat_cmp rest
      → IsInOrder nat_cmp (cond b es (e ∷ rest))
  unfolding IsStrictlySortedBy AreAbove
  order_by e es rest true order above more = order.1
  order_by e es rest false order above more = (above, more)

  -- and the order stays
  pub order_without : (k : ℕ) (es : List (ℕ × X)) → IsInOrder nat_cmp es → IsInOrder nat_cmp (without_key nat_cmp es k)
  unfolding IsStrictlySortedBy AreAbove
  order_without k [] order = tt
  order_without k (e ∷ es) order =
      order_by e es (without_key nat_cmp es k) (is_eq (nat_cmp k e.0)) order (above_kept e.0 k es order.0) (order_without k es order.1)
