-- What is left of a set in order once something is put into it.
use Rattle.std.proofs.Common.{◌≡◌, ◌+◌, ◌≤◌, List, [], ◌∷◌, ◌++◌, length, Bool, true, false, ◌||◌, refl, sym, ap, ◌∙◌, subst, arith}
use Rattle.std.specs.List.{list_all, list_any, AllByRecursion}
use Rattle.std.specs.List.Sorted.{IsStrictlySortedBy}
use Rattle.std.specs.declared.cmp.Ordering.{Ordering}
use Rattle.std.specs.declared.cmp.Ordering.TheVariants.{Less, Equal, Greater}
use Rattle.std.specs.Ordering.{ordering_reverse, match_ordering}
use Rattle.std.specs.Cmp.{IsTotalOrder}
use Rattle.std.specs.BTreeSet.{insert_key}
use Rattle.grammar.proofs.Conditions.{and_both, and_left, and_right}

module _ {K : Type 0} (cmp : K → K → Ordering) where
  pub all_insert : (P : K → Bool) (xs : List K) (k : K) → list_all P xs ≡ true → P k ≡ true → list_all P (insert_key cmp xs k) ≡ true
  all_insert P [] k h p = and_both (P k) true p refl
  all_insert P (x ∷ xs) k h p = by_order (cmp k x) (all_insert P xs k (and_right (P x) _ h) p)
    where
      by_order : (r : Ordering) → list_all P (insert_key cmp xs k) ≡ true
          → list_all P (match_ordering r (k ∷ x ∷ xs) (x ∷ xs) (x ∷ insert_key cmp xs k)) ≡ true
      by_order Less again = and_both (P k) _ p h
      by_order Equal again = h
      by_order Greater again = and_both (P x) _ (and_left _ _ h) again

  pub length_insert : (xs : List K) (k : K) → length (insert_key cmp xs k) ≤ length xs + 1
  length_insert [] k = omega arith
  length_insert (x ∷ xs) k = by_order (cmp k x) (length_insert xs k)
    where
      by_order : (r : Ordering) → length (insert_key cmp xs k) ≤ length xs + 1
          → length (match_ordering r (k ∷ x ∷ xs) (x ∷ xs) (x ∷ insert_key cmp xs k)) ≤ length (x ∷ xs) + 1
      by_order Less again = omega arith
      by_order Equal again = omega arith
      by_order Greater again = omega (arith, again)

  all_less : (P Q : K → Type 0) → ((y : K) → P y → Q y) → (xs : List K) → AllByRecursion P xs → AllByRecursion Q xs
  all_less P Q to [] all = tt
  all_less P Q to (x ∷ xs) all = (to x all.0, all_less P Q to xs all.1)

  all_with : (P : K → Type 0) (xs : List K) (k : K) → AllByRecursion P xs → P k → AllByRecursion P (insert_key cmp xs k)
  all_with P [] k all p = (p, tt)
  all_with P (x ∷ xs) k all p = by_order (cmp k x) (all_with P xs k all.1 p)
    where
      by_order : (r : Ordering) → AllByRecursion P (insert_key cmp xs k)
          → AllByRecursion P (match_ordering r (k ∷ x ∷ xs) (x ∷ xs) (x ∷ insert_key cmp xs k))
      by_order Less again = (p, all)
      by_order Equal again = all
      by_order Greater again = (all.0, again)

  module _ (order : IsTotalOrder cmp) where
    pub sorted_insert : (xs : List K) (k : K) → IsStrictlySortedBy cmp xs → IsStrictlySortedBy cmp (insert_key cmp xs k)
    unfolding IsStrictlySortedBy
    sorted_insert [] k s = (tt, tt)
    sorted_insert (x ∷ xs) k s = by_order (cmp k x) refl (sorted_insert xs k s.1)
      where
        by_order : (r : Ordering) → cmp k x ≡ r → IsStrictlySortedBy cmp (insert_key cmp xs k)
            → IsStrictlySortedBy cmp (match_ordering r (k ∷ x ∷ xs) (x ∷ xs) (x ∷ insert_key cmp xs k))
        by_order Less e again = ((e, all_less (λ y. cmp x y ≡ Less) (λ y. cmp k y ≡ Less) (λ y l. order.trans k x y e l) xs s.0), s)
        by_order Equal e again = s
        by_order Greater e again = (all_with (λ y. cmp x y ≡ Less) xs k s.0 (order.antisymm x k ∙ ap ordering_reverse e), again)

    equal_self : (k : K) → cmp k k ≡ Equal
    equal_self k = by_order (cmp k k) (order.antisymm k k)
      where
        by_order : (r : Ordering) → r ≡ ordering_reverse r → r ≡ Equal
        by_order Less e = cc
        by_order Equal e = refl
        by_order Greater e = cc

    module _ (k : K) (test : K → Bool) (is : (x : K) → test x ≡ true → x ≡ k) where
      above_all : (x : K) (xs : List K) → AllByRecursion (λ y. cmp x y ≡ Less) xs → list_any test xs ≡ true → cmp x k ≡ Less
      above_all x [] all h = cc
      above_all x (y ∷ xs) all h = by_test (test y) refl h (above_all x xs all.1)
        where
          by_test : (b : Bool) → test y ≡ b → b || list_any test xs ≡ true → (list_any test xs ≡ true → cmp x k ≡ Less) → cmp x k ≡ Less
          by_test true e h again = subst (λ y. cmp x y ≡ Less) (is y e) all.0
          by_test false e h again = again h

      -- what is there is put in without a change
      pub insert_present : (xs : List K) → IsStrictlySortedBy cmp xs → list_any test xs ≡ true → insert_key cmp xs k ≡ xs
      unfolding IsStrictlySortedBy
      insert_present [] s h = cc
      insert_present (x ∷ xs) s h = by_test (test x) refl h (insert_present xs s.1)
        where
          by_order : (r : Ordering) → cmp k x ≡ r → cmp x k ≡ Less → insert_key cmp xs k ≡ xs
              → match_ordering r (k ∷ x ∷ xs) (x ∷ xs) (x ∷ insert_key cmp xs k) ≡ x ∷ xs
          by_order Less e l again = let both : Less ≡ Greater = sym e ∙ order.antisymm k x ∙ ap ordering_reverse l in cc
          by_order Equal e l again = refl
          by_order Greater e l again = ap (λ ys. x ∷ ys) again

          by_test : (b : Bool) → test x ≡ b → b || list_any test xs ≡ true → (list_any test xs ≡ true → insert_key cmp xs k ≡ xs)
              → match_ordering (cmp k x) (k ∷ x ∷ xs) (x ∷ xs) (x ∷ insert_key cmp xs k) ≡ x ∷ xs
          by_test true e h again =
              let same : cmp k x ≡ Equal = ap (cmp k) (is x e) ∙ equal_self k in
              ap (λ r. match_ordering r (k ∷ x ∷ xs) (x ∷ xs) (x ∷ insert_key cmp xs k)) same
          by_test false e h again = by_order (cmp k x) refl (above_all x xs s.0 h) (again h)

    middle : (P : K → Type 0) (xs : List K) (k : K) (rest : List K) → AllByRecursion P (xs ++ k ∷ rest) → P k
    middle P [] k rest all = all.0
    middle P (x ∷ xs) k rest all = middle P xs k rest all.1

    -- the next of a rising list goes to the end
    pub insert_last : (xs : List K) (k : K) (rest : List K) → IsStrictlySortedBy cmp (xs ++ k ∷ rest) → insert_key cmp xs k ≡ xs ++ k ∷ []
    unfolding IsStrictlySortedBy
    insert_last [] k rest s = refl
    insert_last (x ∷ xs) k rest s =
        let above : cmp k x ≡ Greater = order.antisymm k x ∙ ap ordering_reverse (middle (λ y. cmp x y ≡ Less) xs k rest s.0) in
        ap (λ r. match_ordering r (k ∷ x ∷ xs) (x ∷ xs) (x ∷ insert_key cmp xs k)) above ∙ ap (λ ys. x ∷ ys) (insert_last xs k rest s.1)
