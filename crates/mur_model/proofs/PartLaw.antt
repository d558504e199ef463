-- The messages that one part of a set names are neighbours.
use Rattle.std.proofs.Common.{◌≡◌, ℕ, zero, suc, ◌+◌, ◌-◌, ◌<◌, ◌≤◌, nat_le, Bool, true, false, ◌&&◌, ◌||◌, List, [], ◌∷◌, length, map, take, drop}
use Rattle.std.proofs.Common.{None, Some, get_or, refl, ap, ◌∙◌, sym, arith}
use Rattle.std.specs.Prelude.{max, min}
use Rattle.std.specs.List.{AllWithin, zip}
use Rattle.std.specs.List.Sorted.{IsNonDecreasingBy}
use Rattle.std.proofs.lemmas.Bool.Decides.{nat_tests}
use Rattle.std.proofs.lemmas.List.{length-map, get_or-map as get_or-mapped}
use Rattle.std.proofs.lemmas.Map.Keys.{non_decreasing_from_sorted}
use Rattle.std.proofs.Math.ListN.{get_or-map}
use Rattle.mail_message.specs.FlagSets.{no_flags}
use Rattle.mail_message.specs.RowOrder.{AreRising}
use Rattle.mail_message.specs.Sets.{part_bounds, set_holds}
use Rattle.mail_message.specs.declared.message.Row.{Row}
use Rattle.mail_message.specs.declared.set.SetPart.{SetPart}
use Rattle.mur_model.specs.ClientView.{uids}
use Rattle.mur_model.specs.NamedRows.{numbers_from, picked, uids_by}

pub rising-from : (rows : List Row) → AreRising rows → IsNonDecreasingBy (λ (row : Row). row.uid) rows
rising-from rows rising i j d le lt =
    let within : j < length (uids rows) = rw (length-map rows (λ (row : Row). row.uid)) lt in
    let rises = non_decreasing_from_sorted (uids rows) rising i j d.uid le within in
    rw (get_or-map (λ (row : Row). row.uid) rows i d, get_or-map (λ (row : Row). row.uid) rows j d) at rises

-- ---- rows whose keys pass a test only in one stretch

none_of : (m a : ℕ) → [] ≡ uids (take m (drop a []))
none_of zero zero = refl
none_of zero (suc a) = refl
none_of (suc m) zero = refl
none_of (suc m) (suc a) = refl

stretch : (test : ℕ → Bool) (keys : List ℕ) (rows : List Row) (a m : ℕ) → length keys ≡ length rows
    → AllWithin (λ key. test key ≡ false) keys 0 a → AllWithin (λ key. test key ≡ true) keys a (a + m)
    → AllWithin (λ key. test key ≡ false) keys (a + m) (length keys)
    → picked (zip rows (map test keys)) ≡ uids (take m (drop a rows))
stretch test [] [] a m same low mid high = none_of m a
stretch test [] (row ∷ rows) a m same low mid high = absurd (omega (arith, same))
stretch test (key ∷ keys) [] a m same low mid high = absurd (omega (arith, same))
stretch test (key ∷ keys) (row ∷ rows) (suc a) m same low mid high =
    let no : test key ≡ false = low 0 key (omega arith) (omega arith) in
    rw no
    (stretch test keys rows a m (omega (arith, same)) (λ k d from to. low (suc k) d (omega arith) (omega (arith, to)))
    (λ k d from to. mid (suc k) d (omega (arith, from)) (omega (arith, to))) (λ k d from to. high (suc k) d (omega (arith, from)) (omega (arith, to))))
stretch test (key ∷ keys) (row ∷ rows) zero (suc m) same low mid high =
    let yes : test key ≡ true = mid 0 key (omega arith) (omega arith) in
    rw yes
    (ap (λ (list : List ℕ). row.uid ∷ list)
    (stretch test keys rows 0 m (omega (arith, same)) (λ k d from to. absurd (omega (arith, to)))
    (λ k d from to. mid (suc k) d (omega arith) (omega (arith, to))) (λ k d from to. high (suc k) d (omega (arith, from)) (omega (arith, to)))))
stretch test (key ∷ keys) (row ∷ rows) zero zero same low mid high =
    let no : test key ≡ false = high 0 key (omega arith) (omega arith) in
    rw no
    (stretch test keys rows 0 0 (omega (arith, same)) (λ k d from to. absurd (omega (arith, to))) (λ k d from to. absurd (omega (arith, to)))
    (λ k d from to. high (suc k) d (omega arith) (omega (arith, to))))

-- ---- what a part holds

or_false : (b : Bool) → (b || false) ≡ b
or_false true = refl
or_false false = refl

holds : (part : SetPart) (l g n : ℕ) → part_bounds part ≡ Some (l, g) → set_holds (part ∷ []) n ≡ (nat_le l n && nat_le n g)
holds part l g n is = rw is (or_false (nat_le l n && nat_le n g))

holds_none : (part : SetPart) (n : ℕ) → part_bounds part ≡ None → set_holds (part ∷ []) n ≡ false
holds_none part n is = rw is refl

below : (l g n : ℕ) → n < l → (nat_le l n && nat_le n g) ≡ false
below l g n lt = grind (arith, nat_tests, lt)

between : (l g n : ℕ) → l ≤ n → n ≤ g → (nat_le l n && nat_le n g) ≡ true
between l g n le ge = grind (arith, nat_tests, le, ge)

behind : (l g n : ℕ) → g < n → (nat_le l n && nat_le n g) ≡ false
behind l g n lt = grind (arith, nat_tests, lt)

-- ---- by UIDs

abbrev row_with : ℕ → Row
row_with uid = record { uid = uid; flags = no_flags }

uid_at : (rows : List Row) (k d : ℕ) → k < length rows → get_or (uids rows) k d ≡ (get_or rows k (row_with d)).uid
uid_at rows k d within = get_or-mapped (λ (row : Row). row.uid) rows k (row_with d) d within

pub by_uids : (part : SetPart) (l g a b : ℕ) (rows : List Row) → part_bounds part ≡ Some (l, g)
    → AllWithin (λ row. row.uid < l) rows 0 a → AllWithin (λ row. l ≤ row.uid) rows a (length rows)
    → AllWithin (λ row. row.uid ≤ g) rows 0 b → AllWithin (λ row. g < row.uid) rows b (length rows)
    → a ≤ length rows → b ≤ length rows
    → uids (take (max a b - a) (drop a rows)) ≡ uids_by (part ∷ []) (uids rows) rows
by_uids part l g a b rows is low from until high within among =
    let same = length-map rows (λ (row : Row). row.uid) in
    sym
    (stretch (set_holds (part ∷ [])) (uids rows) rows a (max a b - a) same
    (λ k d ge lt. let n = get_or (uids rows) k d in
    let at = uid_at rows k d (omega (arith, lt, within)) in holds part l g n is ∙ below l g n (rw at (low k (row_with d) ge lt)))
    (λ k d ge lt. let n = get_or (uids rows) k d in
    let inside : k < b = omega (arith, ge, lt) in
    let at = uid_at rows k d (omega (arith, inside, among)) in
    holds part l g n is
    ∙ between l g n (rw at (from k (row_with d) ge (omega (arith, inside, among)))) (rw at (until k (row_with d) (omega arith) inside)))
    (λ k d ge lt. let n = get_or (uids rows) k d in
    let inside : k < length rows = omega (arith, lt, same) in
    let at = uid_at rows k d inside in holds part l g n is ∙ behind l g n (rw at (high k (row_with d) (omega (arith, ge)) inside))))

-- ---- by numbers

numbers_length : (n : ℕ) (rows : List Row) → length (numbers_from n rows) ≡ length rows
numbers_length n [] = refl
numbers_length n (row ∷ rows) = ap suc (numbers_length (n + 1) rows)

number_at : (n k d : ℕ) (rows : List Row) → k < length rows → get_or (numbers_from n rows) k d ≡ n + k
number_at n k d [] within = absurd (omega (arith, within))
number_at n zero d (row ∷ rows) within = omega arith
number_at n (suc k) d (row ∷ rows) within = omega (arith, number_at (n + 1) k d rows (omega (arith, within)))

pub by_numbers : (part : SetPart) (l g a b : ℕ) (rows : List Row) → part_bounds part ≡ Some (l, g)
    → a ≡ min (l - 1) (length rows) → b ≡ min g (length rows)
    → uids (take (max a b - a) (drop a rows)) ≡ uids_by (part ∷ []) (numbers_from 1 rows) rows
by_numbers part l g a b rows is first last =
    let same = numbers_length 1 rows in
    sym
    (stretch (set_holds (part ∷ [])) (numbers_from 1 rows) rows a (max a b - a) same
    (λ k d ge lt. let n = get_or (numbers_from 1 rows) k d in
    let at = number_at 1 k d rows (omega (arith, lt, first)) in holds part l g n is ∙ below l g n (omega (arith, at, lt, first)))
    (λ k d ge lt. let n = get_or (numbers_from 1 rows) k d in
    let inside : k < b = omega (arith, ge, lt) in
    let at = number_at 1 k d rows (omega (arith, inside, last)) in
    holds part l g n is ∙ between l g n (omega (arith, at, ge, inside, first, last)) (omega (arith, at, inside, last)))
    (λ k d ge lt. let n = get_or (numbers_from 1 rows) k d in
    let at = number_at 1 k d rows (omega (arith, lt, same)) in
    holds part l g n is ∙ behind l g n (omega (arith, at, ge, lt, same, last))))

-- ---- a part that names no number

pub by_none : (part : SetPart) (keys : List ℕ) (rows : List Row) → part_bounds part ≡ None → length keys ≡ length rows → [] ≡ uids_by (part ∷ []) keys rows
by_none part keys rows is same =
    sym
    (stretch (set_holds (part ∷ [])) keys rows 0 0 same (λ k d ge lt. absurd (omega (arith, lt))) (λ k d ge lt. absurd (omega (arith, lt)))
    (λ k d ge lt. holds_none part (get_or keys k d) is))

pub no_uids : (part : SetPart) (rows : List Row) → part_bounds part ≡ None → [] ≡ uids_by (part ∷ []) (uids rows) rows
no_uids part rows is = by_none part (uids rows) rows is (length-map rows (λ (row : Row). row.uid))

pub no_numbers : (part : SetPart) (rows : List Row) → part_bounds part ≡ None → [] ≡ uids_by (part ∷ []) (numbers_from 1 rows) rows
no_numbers part rows is = by_none part (numbers_from 1 rows) rows is (numbers_length 1 rows)
