-- Where a line ends.
use Rattle.std.proofs.Common.{◌≡◌, ℕ, suc, ◌+◌, ◌-◌, ◌≤◌, Bool, true, false, ◌&&◌, ◌==◌, cond, List, [], ◌∷◌, ◌++◌}
use Rattle.std.proofs.Common.{length, take, get_or, ◌≢◌, Option, unwrap_or, inl, inr, refl, sym, ap, ◌∙◌, arith, None, Some}
use Rattle.std.proofs.lemmas.List.{append-nil, length-append}
use Rattle.std.proofs.lemmas.Bool.{cases_Bool}
use Rattle.std.proofs.lemmas.Bool.Decides.{nat_tests}
use Rattle.std.specs.Option.{option_map}
use Rattle.mur_base.specs.Ascii.{begins_with_lf, ends_with_cr}
use Rattle.imap_wire.specs.Line.{without_last, with_first_byte, split_line, least_length}

pub ends_with_cr-push : (xs : List ℕ) (byte : ℕ) → ends_with_cr (xs ++ byte ∷ []) ≡ (byte == 13)
unfolding ends_with_cr
ends_with_cr-push [] byte = refl
ends_with_cr-push (x ∷ []) byte = refl
ends_with_cr-push (x ∷ y ∷ xs) byte = ends_with_cr-push (y ∷ xs) byte

pub without_last-push : (xs : List ℕ) (byte : ℕ) → without_last (xs ++ byte ∷ []) ≡ xs
unfolding without_last
without_last-push [] byte = refl
without_last-push (x ∷ []) byte = refl
without_last-push (x ∷ y ∷ xs) byte = ap (λ l. x ∷ l) (without_last-push (y ∷ xs) byte)

pub without_last-cr : (xs : List ℕ) → ends_with_cr xs ≡ true → xs ≡ without_last xs ++ 13 ∷ []
unfolding ends_with_cr without_last
without_last-cr [] cr = cc
without_last-cr (x ∷ []) cr = let e : x ≡ 13 = grind (arith, nat_tests) in ap (λ b. b ∷ []) e
without_last-cr (x ∷ y ∷ xs) cr = ap (λ l. x ∷ l) (without_last-cr (y ∷ xs) cr)

pub length-without_last : (xs : List ℕ) → length (without_last xs) ≡ length xs - 1
unfolding without_last
length-without_last [] = refl
length-without_last (x ∷ []) = refl
length-without_last (x ∷ y ∷ xs) = let rest = length-without_last (y ∷ xs) in omega (arith, rest)

pub and-false : (b : Bool) → (b && false) ≡ false
and-false b = elim b as (λ v. (v && false) ≡ false) [ true ↦ refl | false ↦ refl ]

and-swap : (a b : Bool) → (a && b) ≡ false → (b && a) ≡ false
and-swap a b h = elim a as (λ v. (v && b) ≡ false → (b && v) ≡ false) [
  | true ↦ (λ h'. elim b as (λ w. w ≡ false → (w && true) ≡ false) [ true ↦ λ e. e | false ↦ λ e. e ] h')
  | false ↦ (λ _. and-false b)
] h

-- no CRLF begins at the head, and none follows
none-parts : (test : Bool) (now : Option (List ℕ × List ℕ)) (x : ℕ) (later : Option (List ℕ × List ℕ)) (head : List ℕ × List ℕ)
    → cond test (Some head) (option_map (with_first_byte x) later) ≡ None → (test ≡ false) × (later ≡ None)
none-parts true now x later head h = cc
none-parts false now x None head h = (refl, refl)
none-parts false now x (Some split) head h = cc

split_line-none : (x : ℕ) (rest : List ℕ) → split_line (x ∷ rest) ≡ None
    → ((x == 13 && begins_with_lf rest) ≡ false) × (split_line rest ≡ None)
unfolding split_line
split_line-none x rest h = none-parts (x == 13 && begins_with_lf rest) None x (split_line rest) _ h

pub split_line-more : (x : ℕ) (rest : List ℕ) → (x == 13 && begins_with_lf rest) ≡ false
    → split_line (x ∷ rest) ≡ option_map (with_first_byte x) (split_line rest)
unfolding split_line
split_line-more x rest h = rw h refl

-- one byte more ends no line, unless it is LF behind CR
pub split_line-push : (xs : List ℕ) (byte : ℕ) → split_line xs ≡ None → (byte == 10 && ends_with_cr xs) ≡ false
    → split_line (xs ++ byte ∷ []) ≡ None
unfolding ends_with_cr begins_with_lf split_line
split_line-push [] byte h goes_on = rw (and-false (byte == 13)) refl
split_line-push (x ∷ []) byte h goes_on =
    let apart : (x == 13 && begins_with_lf (byte ∷ [])) ≡ false = and-swap (byte == 10) (x == 13) goes_on in
    rw (split_line-more x (byte ∷ []) apart, and-false (byte == 13)) refl
split_line-push (x ∷ y ∷ xs) byte h goes_on =
    let parts = split_line-none x (y ∷ xs) h in
    rw (split_line-more x (y ∷ xs ++ byte ∷ []) parts.0, split_line-push (y ∷ xs) byte parts.1 goes_on) refl

-- LF behind CR ends a line
pub split_line-end : (text rest : List ℕ) → split_line (text ++ 13 ∷ []) ≡ None → split_line (text ++ 13 ∷ 10 ∷ rest) ≡ Some (text, rest)
unfolding begins_with_lf split_line
split_line-end [] rest h = refl
split_line-end (x ∷ []) rest h =
    let parts = split_line-none x (13 ∷ []) h in
    rw (split_line-more x (13 ∷ 10 ∷ rest) parts.0) refl
split_line-end (x ∷ y ∷ text) rest h =
    let parts = split_line-none x (y ∷ text ++ 13 ∷ []) h in
    rw (split_line-more x (y ∷ text ++ 13 ∷ 10 ∷ rest) parts.0, split_line-end (y ∷ text) rest parts.1) refl

pub least_length-le : (xs : List ℕ) → least_length xs ≤ length xs
least_length-le xs =
    let shorter = length-without_last xs in
    elim (ends_with_cr xs) as (λ v. cond v (length (without_last xs)) (length xs) ≤ length xs) [ true ↦ omega (arith, shorter) | false ↦ omega arith ]

pub least_length-ge : (xs : List ℕ) → length xs ≤ least_length xs + 1
least_length-ge xs =
    let shorter = length-without_last xs in
    elim (ends_with_cr xs) as (λ v. length xs ≤ cond v (length (without_last xs)) (length xs) + 1) [
      | true ↦ omega (arith, shorter)
      | false ↦ omega arith
    ]

-- more bytes make no line shorter
pub least_length-append : (xs more : List ℕ) → least_length xs ≤ least_length (xs ++ more)
least_length-append xs [] = rw append-nil (omega arith)
least_length-append xs (x ∷ more) = omega (arith, least_length-le xs, least_length-ge (xs ++ x ∷ more), length-append xs (x ∷ more))

least_length-more : (x y : ℕ) (xs : List ℕ) → least_length (x ∷ y ∷ xs) ≡ suc (least_length (y ∷ xs))
unfolding ends_with_cr without_last
least_length-more x y xs =
    elim (ends_with_cr (y ∷ xs)) as
    (λ v. cond v (suc (length (without_last (y ∷ xs)))) (suc (suc (length xs))) ≡ suc
    (cond v (length (without_last (y ∷ xs))) (suc (length xs)))) [ true ↦ refl | false ↦ refl ]

some-parts : (o : Option (List ℕ × List ℕ)) (x : ℕ) (text rest : List ℕ) → option_map (with_first_byte x) o ≡ Some (text, rest)
    → (shorter : List ℕ) × (o ≡ Some (shorter, rest)) × (text ≡ x ∷ shorter)
some-parts None x text rest h = cc
some-parts (Some split) x text rest h =
    let same = ap (λ (o : Option (List ℕ × List ℕ)). unwrap_or o ([], [])) h in
    let behind : split.1 ≡ rest = ap (λ (p : List ℕ × List ℕ). p.1) same in
    (split.0, ap (λ (r : List ℕ). Some (split.0, r)) behind, sym (ap (λ (p : List ℕ × List ℕ). p.0) same))

-- what has come of a line isn't longer than the line turns out to be
pub least_length-split : (begun more text rest : List ℕ) → split_line begun ≡ None → split_line (begun ++ more) ≡ Some (text, rest)
    → least_length begun ≤ length text
unfolding split_line begins_with_lf ends_with_cr without_last
least_length-split [] more text rest none split = omega arith
least_length-split (x ∷ []) more text rest none split =
    elim (cases_Bool (x == 13)) [
      | inl cr ↦ rw cr (omega arith)
      | inr other ↦
          let no : (x == 13 && begins_with_lf more) ≡ false = rw other refl in
          let parts = some-parts (split_line more) x text rest (sym (split_line-more x more no) ∙ split) in
          rw (other, parts.2) (omega arith)
    ]
least_length-split (x ∷ y ∷ xs) more text rest none split =
    let parts = split_line-none x (y ∷ xs) none in
    let shorter = some-parts (split_line (y ∷ xs ++ more)) x text rest (sym (split_line-more x (y ∷ xs ++ more) parts.0) ∙ split) in
    let below = least_length-split (y ∷ xs) more shorter.0 rest parts.1 shorter.1 in
    let longer = ap length shorter.2 in
    omega (arith, below, longer, least_length-more x y xs)

pub length-ends_with_cr : (xs : List ℕ) → ends_with_cr xs ≡ true → 1 ≤ length xs
unfolding ends_with_cr
length-ends_with_cr [] cr = cc
length-ends_with_cr (x ∷ xs) cr = omega arith

pub without_last-is : (xs : List ℕ) → take (length xs - 1) xs ≡ without_last xs
unfolding without_last
without_last-is [] = refl
without_last-is (x ∷ []) = refl
without_last-is (x ∷ y ∷ xs) =
    let size : length (x ∷ y ∷ xs) - 1 ≡ suc (length (y ∷ xs) - 1) = omega arith in
    rw size (ap (λ l. x ∷ l) (without_last-is (y ∷ xs)))

-- the last byte is CR
pub ends_with_cr-is : (xs : List ℕ) → ends_with_cr xs ≡ (get_or xs (length xs - 1) 0 == 13)
unfolding ends_with_cr
ends_with_cr-is [] = refl
ends_with_cr-is (x ∷ []) = refl
ends_with_cr-is (x ∷ y ∷ xs) =
    let size : length (x ∷ y ∷ xs) - 1 ≡ suc (length (y ∷ xs) - 1) = omega arith in
    rw size (ends_with_cr-is (y ∷ xs))

pub least_length-cr : (xs : List ℕ) → least_length (xs ++ 13 ∷ []) ≡ length xs
least_length-cr xs = rw (ends_with_cr-push xs 13, without_last-push xs 13) refl

pub least_length-other : (xs : List ℕ) (byte : ℕ) → byte ≢ 13 → least_length (xs ++ byte ∷ []) ≡ length xs + 1
least_length-other xs byte other =
    let no : (byte == 13) ≡ false = grind (arith, nat_tests) in
    rw (ends_with_cr-push xs byte, no) (omega (arith, length-append xs (byte ∷ [])))
