-- Keys in strictly rising order: where a key stands, and what a binary search makes of it.
use Rattle.std.proofs.Common.{◌≡◌, ℕ, zero, suc, ◌<◌, ◌≤◌, Bool, true, false, ◌||◌, cond, List, [], ◌∷◌, length, slice_index_or, refl, sym, ap, ◌∙◌, subst, arith}
use Rattle.std.specs.Prelude.{insert, not, remove, Result, Ok, Err, is_ok}
use Rattle.std.specs.List.{AllByRecursion, HoldsAt, filter, list_any}
use Rattle.std.specs.List.Sorted.{IsStrictlySortedBy, IsNonDecreasingBy, IsPartitionPoint, IsBinarySearchResult, IsSearchInRange}
use Rattle.std.specs.declared.cmp.Ordering.{Ordering}
use Rattle.std.specs.declared.cmp.Ordering.TheVariants.{Less, Equal, Greater}
use Rattle.std.specs.Ordering.{ordering_index, ordering_reverse, is_eq, match_ordering}
use Rattle.std.specs.Cmp.{IsTotalOrder}
use Rattle.std.specs.BTreeMap.{is_at}
use Rattle.std.specs.BTreeSet.{insert_key}
use Rattle.std.proofs.lemmas.Cmp.{alike_right, tied_back}
use Rattle.std.proofs.lemmas.Map.Keys.{Less-from_sorted}

module _ {K : Type 0} where
  -- ---- a list with a key more or less

  all_inserted : (cmp : K → K → Ordering) (P : K → Type 0) (xs : List K) (k : K) → AllByRecursion P xs → P k → AllByRecursion P (insert_key cmp xs k)
  all_inserted cmp P [] k all p = (p, tt)
  all_inserted cmp P (x ∷ xs) k all p = by (cmp k x) (all_inserted cmp P xs k all.1 p)
    where
      by : (r : Ordering) → AllByRecursion P (insert_key cmp xs k) → AllByRecursion P (match_ordering r (k ∷ x ∷ xs) (x ∷ xs) (x ∷ insert_key cmp xs k))
      by Less rest = (p, all)
      by Equal rest = all
      by Greater rest = (all.0, rest)

  -- the keys that a test doesn't find
  abbrev pub others_than : (K → Bool) → List K → List K
  others_than test xs = filter (λ x. not (test x)) xs

  all_removed : (test : K → Bool) (P : K → Type 0) (xs : List K) → AllByRecursion P xs → AllByRecursion P (others_than test xs)
  all_removed test P [] all = tt
  all_removed test P (x ∷ xs) all = by (test x) (all_removed test P xs all.1)
    where
      by : (b : Bool) → AllByRecursion P (others_than test xs) → AllByRecursion P (cond (not b) (x ∷ others_than test xs) (others_than test xs))
      by true rest = rest
      by false rest = (all.0, rest)

  pub length_removed : (test : K → Bool) (xs : List K) → length (others_than test xs) ≤ length xs
  length_removed test [] = omega arith
  length_removed test (x ∷ xs) = by (test x) (length_removed test xs)
    where
      by : (b : Bool) → length (others_than test xs) ≤ length xs → length (cond (not b) (x ∷ others_than test xs) (others_than test xs)) ≤ suc (length xs)
      by true rest = omega (arith, rest)
      by false rest = omega (arith, rest)

  -- a key that isn't there is not taken out
  remove_absent : (test : K → Bool) (xs : List K) → list_any test xs ≡ false → others_than test xs ≡ xs
  remove_absent test [] none = refl
  remove_absent test (x ∷ xs) none = by (test x) none (remove_absent test xs)
    where
      by : (b : Bool) → (b || list_any test xs) ≡ false → (list_any test xs ≡ false → others_than test xs ≡ xs)
          → cond (not b) (x ∷ others_than test xs) (others_than test xs) ≡ x ∷ xs
      by true none rest = cc
      by false none rest = ap (λ ys. x ∷ ys) (rest none)

  -- a key that isn't there makes the list longer
  pub length_absent : (cmp : K → K → Ordering) (xs : List K) (k : K) → list_any (is_at (cmp k)) xs ≡ false → length (insert_key cmp xs k) ≡ suc (length xs)
  length_absent cmp [] k none = refl
  length_absent cmp (x ∷ xs) k none = by (cmp k x) none (length_absent cmp xs k)
    where
      by : (r : Ordering) → (is_eq r || list_any (is_at (cmp k)) xs) ≡ false
          → (list_any (is_at (cmp k)) xs ≡ false → length (insert_key cmp xs k) ≡ suc (length xs))
          → length (match_ordering r (k ∷ x ∷ xs) (x ∷ xs) (x ∷ insert_key cmp xs k)) ≡ suc (suc (length xs))
      by Less none rest = refl
      by Equal none rest = cc
      by Greater none rest = let more = rest none in omega (arith, more)

  module _ (cmp : K → K → Ordering) (order : IsTotalOrder cmp) where
    turned : (x y : K) (r : Ordering) → cmp x y ≡ r → cmp y x ≡ ordering_reverse r
    turned x y r e = order.antisymm y x ∙ ap ordering_reverse e

    below_all : (k x : K) (xs : List K) → cmp k x ≡ Less → AllByRecursion (λ y. cmp x y ≡ Less) xs → AllByRecursion (λ y. cmp k y ≡ Less) xs
    below_all k x [] less all = tt
    below_all k x (y ∷ ys) less all = (order.trans k x y less all.0, below_all k x ys less all.1)

    sorted_inserted : (xs : List K) (k : K) → IsStrictlySortedBy cmp xs → IsStrictlySortedBy cmp (insert_key cmp xs k)
    unfolding IsStrictlySortedBy
    sorted_inserted [] k s = (tt, tt)
    sorted_inserted (x ∷ xs) k s = by (cmp k x) refl (sorted_inserted xs k s.1)
      where
        by : (r : Ordering) → cmp k x ≡ r → IsStrictlySortedBy cmp (insert_key cmp xs k)
            → IsStrictlySortedBy cmp (match_ordering r (k ∷ x ∷ xs) (x ∷ xs) (x ∷ insert_key cmp xs k))
        by Less e rest = ((e, below_all k x xs e s.0), s)
        by Equal e rest = s
        by Greater e rest = (all_inserted cmp (λ y. cmp x y ≡ Less) xs k s.0 (turned k x Greater e), rest)

    sorted_removed : (test : K → Bool) (xs : List K) → IsStrictlySortedBy cmp xs → IsStrictlySortedBy cmp (others_than test xs)
    unfolding IsStrictlySortedBy
    sorted_removed test [] s = tt
    sorted_removed test (x ∷ xs) s = by (test x) (sorted_removed test xs s.1)
      where
        by : (b : Bool) → IsStrictlySortedBy cmp (others_than test xs)
            → IsStrictlySortedBy cmp (cond (not b) (x ∷ others_than test xs) (others_than test xs))
        by true rest = rest
        by false rest = (all_removed test (λ y. cmp x y ≡ Less) xs s.0, rest)

    pub sorted_none : IsStrictlySortedBy cmp []
    unfolding IsStrictlySortedBy
    sorted_none = tt

    -- ---- a search for a key

    module _ (k : K) where
      most : (r : Ordering) → ordering_index r ≤ 2
      most Less = omega arith
      most Equal = omega arith
      most Greater = omega arith

      rises : (x y : K) → cmp x y ≡ Less → ordering_index (cmp x k) ≤ ordering_index (cmp y k)
      rises x y less = by (cmp y k) refl
        where
          by : (r : Ordering) → cmp y k ≡ r → ordering_index (cmp x k) ≤ ordering_index r
          by Less e = rw (order.trans x y k less e) (omega arith)
          by Equal e = rw (sym (alike_right order y k x e) ∙ less) (omega arith)
          by Greater e = most (cmp x k)

      ranks_rise : (xs : List K) → IsStrictlySortedBy cmp xs → IsNonDecreasingBy (λ y. ordering_index (cmp y k)) xs
      unfolding IsStrictlySortedBy
      ranks_rise [] s i j d le lt = let no : ⊥ = omega (arith, lt) in absurd no
      ranks_rise (x ∷ xs) s zero zero d le lt = omega arith
      ranks_rise (x ∷ xs) s zero (suc j) d le lt = rises x (slice_index_or xs j d) (Less-from_sorted cmp (x ∷ xs) 0 (suc j) d s (omega arith) lt)
      ranks_rise (x ∷ xs) s (suc i) zero d le lt = let no : ⊥ = omega (arith, le) in absurd no
      ranks_rise (x ∷ xs) s (suc i) (suc j) d le lt = ranks_rise xs s.1 i j d (omega (arith, le)) (omega (arith, lt))

      any_below : (x : K) (xs : List K) → cmp k x ≡ Less → AllByRecursion (λ y. cmp x y ≡ Less) xs → list_any (is_at (cmp k)) xs ≡ false
      any_below x [] less all = refl
      any_below x (y ∷ ys) less all = rw (order.trans k x y less all.0) (any_below x ys less all.1)

      -- a key stands once
      any_behind : (x : K) (xs : List K) → cmp k x ≡ Equal → AllByRecursion (λ y. cmp x y ≡ Less) xs → list_any (is_at (cmp k)) xs ≡ false
      any_behind x [] same all = refl
      any_behind x (y ∷ ys) same all =
          rw (turned y k Greater (alike_right order k x y same ∙ turned x y Less all.0)) (any_behind x ys same all.1)

      -- a key that is there is not put in again
      pub there_stays : (xs : List K) → IsStrictlySortedBy cmp xs → list_any (is_at (cmp k)) xs ≡ true → insert_key cmp xs k ≡ xs
      unfolding IsStrictlySortedBy
      there_stays [] s any = cc
      there_stays (x ∷ xs) s any = by (cmp k x) refl any (there_stays xs s.1)
        where
          by : (r : Ordering) → cmp k x ≡ r → (is_eq r || list_any (is_at (cmp k)) xs) ≡ true
              → (list_any (is_at (cmp k)) xs ≡ true → insert_key cmp xs k ≡ xs)
              → match_ordering r (k ∷ x ∷ xs) (x ∷ xs) (x ∷ insert_key cmp xs k) ≡ x ∷ xs
          by Less e any rest = let no : false ≡ true = sym (any_below x xs e s.0) ∙ any in cc
          by Equal e any rest = refl
          by Greater e any rest = ap (λ ys. x ∷ ys) (rest any)

      -- what follows where the key stands at a place
      record Found (xs : List K) (i : ℕ) : Type 0 where
        pub there : list_any (is_at (cmp k)) xs ≡ true
        pub stays : insert_key cmp xs k ≡ xs
        pub without : remove xs i ≡ others_than (is_at (cmp k)) xs

      found : (xs : List K) (i : ℕ) → IsStrictlySortedBy cmp xs → i < length xs → HoldsAt (λ y. cmp y k ≡ Equal) xs i → Found xs i
      unfolding IsStrictlySortedBy
      found [] i s lt at = let no : ⊥ = omega (arith, lt) in absurd no
      found (x ∷ xs) zero s lt at =
          let same : cmp k x ≡ Equal = tied_back order x k (at x) in
          record {
            there = rw same refl;
            stays = rw same refl;
            without = rw same (sym (remove_absent (is_at (cmp k)) xs (any_behind x xs same s.0)));
          }
      found (x ∷ xs) (suc i) s lt at =
          let less = Less-from_sorted cmp (x ∷ xs) 0 (suc i) x s (omega arith) lt in
          let above : cmp k x ≡ Greater = turned x k Less (sym (alike_right order (slice_index_or xs i x) k x (at x)) ∙ less) in
          let rest = found xs i s.1 (omega (arith, lt)) (λ d. at d) in
          record {
            there = rw above rest.there;
            stays = rw above (ap (λ ys. x ∷ ys) rest.stays);
            without = rw above (ap (λ ys. x ∷ ys) rest.without);
          }

      -- what follows where the key would stand at a place
      record Missing (xs : List K) (i : ℕ) : Type 0 where
        pub none : list_any (is_at (cmp k)) xs ≡ false
        pub put : insert_key cmp xs k ≡ insert xs i k

      missing : (xs : List K) (i : ℕ) → IsPartitionPoint (λ y. cmp y k ≡ Less) (λ y. cmp y k ≡ Greater) xs i → Missing xs i
      missing [] zero at = record { none = refl; put = refl }
      missing [] (suc i) at = record { none = refl; put = refl }
      missing (x ∷ xs) zero at =
          let below : cmp k x ≡ Less = turned x k Greater (at.1 0 x (omega arith) (omega arith)) in
          let rest = missing xs zero ((λ j d from to. let no : ⊥ = omega (arith, to) in absurd no), (λ j d from to. at.1 (suc j) d (omega arith) (omega (arith, to)))) in
          record { none = rw below rest.none; put = rw below refl }
      missing (x ∷ xs) (suc i) at =
          let above : cmp k x ≡ Greater = turned x k Less (at.0 0 x (omega arith) (omega arith)) in
          let rest = missing xs i ((λ j d from to. at.0 (suc j) d (omega arith) (omega (arith, to))), (λ j d from to. at.1 (suc j) d (omega (arith, from)) (omega (arith, to)))) in
          record { none = rw above rest.none; put = rw above (ap (λ ys. x ∷ ys) rest.put) }

      module _ (xs : List K) (s : IsStrictlySortedBy cmp xs) where
        pub search_contains : (r : Result ℕ ℕ) → IsSearchInRange r (length xs) → IsBinarySearchResult (λ y. cmp y k) xs r → is_ok r ≡ list_any (is_at (cmp k)) xs
        search_contains (Ok i) lt at = sym (found xs i s lt at).there
        search_contains (Err i) le at = sym (missing xs i (at (ranks_rise xs s))).none

        pub search_stays : (i : ℕ) → i < length xs → HoldsAt (λ y. cmp y k ≡ Equal) xs i → xs ≡ insert_key cmp xs k
        search_stays i lt at = sym (found xs i s lt at).stays

        pub search_puts : (i : ℕ) → IsBinarySearchResult (λ y. cmp y k) xs (Err i) → insert xs i k ≡ insert_key cmp xs k
        search_puts i at = sym (missing xs i (at (ranks_rise xs s))).put

        pub search_takes : (i : ℕ) → i < length xs → HoldsAt (λ y. cmp y k ≡ Equal) xs i → remove xs i ≡ others_than (is_at (cmp k)) xs
        search_takes i lt at = (found xs i s lt at).without

        pub search_leaves : (i : ℕ) → IsBinarySearchResult (λ y. cmp y k) xs (Err i) → xs ≡ others_than (is_at (cmp k)) xs
        search_leaves i at = sym (remove_absent (is_at (cmp k)) xs (missing xs i (at (ranks_rise xs s))).none)

        pub sorted_put : (i : ℕ) → IsBinarySearchResult (λ y. cmp y k) xs (Err i) → IsStrictlySortedBy cmp (insert xs i k)
        sorted_put i at = subst (IsStrictlySortedBy cmp) (sym (search_puts i at)) (sorted_inserted xs k s)

        pub sorted_taken : (i : ℕ) → i < length xs → HoldsAt (λ y. cmp y k ≡ Equal) xs i → IsStrictlySortedBy cmp (remove xs i)
        sorted_taken i lt at = subst (IsStrictlySortedBy cmp) (sym (search_takes i lt at)) (sorted_removed (is_at (cmp k)) xs s)
