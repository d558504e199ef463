-- What the reading of a number makes of that of a number between bounds.
use Rattle.std.proofs.Common.{◌≡◌, ℕ, ◌<◌, ◌≤◌, nat_le, List, [], ◌∷◌, ◌++◌, length, Result, Ok, Err, Bool, true, false, ◌&&◌, cond, refl, ap, sym, ◌∙◌}
use Rattle.std.proofs.Common.{le-leb}
use borrow.Author.Tests.{lt-leb}
use Rattle.grammar.specs.Part.{◌>>=◌}
use Rattle.grammar.specs.Runs.{some}
use Rattle.grammar.specs.Words.{scan, halt}
use Rattle.grammar.specs.Numbers.{value_of, numerals, number}
use Rattle.grammar.proofs.Conditions.{and_left, and_right, and_false, and_false_right}
use Rattle.grammar.proofs.Reading.{ok_parts}
use Rattle.mupdate_codec.specs.Sizes.{sizes, size}

module _ (least most : ℕ) where
  -- the number that digits stand for
  abbrev valued : List ℕ → List ℕ → Result (ℕ × List ℕ) ℕ
  valued text rest = Ok (value_of text, rest)

  -- what the scan of a number between bounds makes of that of a number
  bounded : Result (List ℕ × List ℕ) ℕ → Result (List ℕ × List ℕ) ℕ
  bounded (Ok x) = halt ((sizes least most).whole x.0) x.0 x.1
  bounded (Err left) = Err left

  and_true : (a : Bool) → a && true ≡ a
  and_true true = refl
  and_true false = refl

  begins_same : (s : List ℕ) → (numerals true most).begins s ≡ (sizes least most).begins s
  begins_same s = and_true _

  halt_same : (front rest : List ℕ) (b : Bool) → (numerals true most).whole front ≡ b
      → halt ((sizes least most).whole front) front rest ≡ bounded (halt b front rest)
  unfolding bounded
  halt_same front rest true e = refl
  halt_same front rest false e = ap (λ b. halt b front rest) (by_some (some front) refl)
    where
      by_some : (b : Bool) → some front ≡ b → (sizes least most).whole front ≡ false
      by_some false s =
          ap (λ b. (sizes least most).begins front && (b && nat_le least (value_of front))) s ∙ and_false_right ((sizes least most).begins front) false refl
      by_some true s =
          let digits : (sizes least most).begins front ≡ false =
          sym (begins_same front) ∙ sym (and_true _) ∙ ap (λ b. (numerals true most).begins front && b) (sym s) ∙ e in
          and_false _ _ digits

  scan_same : (front bytes : List ℕ) → scan (sizes least most) front bytes ≡ bounded (scan (numerals true most) front bytes)
  scan_same front [] = halt_same front [] ((numerals true most).whole front) refl
  scan_same front (c ∷ bytes) = by_test ((numerals true most).begins (front ++ c ∷ [])) refl (scan_same (front ++ c ∷ []) bytes)
    where
      by_test : (b : Bool) → (numerals true most).begins (front ++ c ∷ []) ≡ b
          → scan (sizes least most) (front ++ c ∷ []) bytes ≡ bounded (scan (numerals true most) (front ++ c ∷ []) bytes)
          → scan (sizes least most) front (c ∷ bytes)
          ≡ bounded (cond b (scan (numerals true most) (front ++ c ∷ []) bytes) (halt ((numerals true most).whole front) front (c ∷ bytes)))
      by_test true is again =
          ap (λ b. cond b (scan (sizes least most) (front ++ c ∷ []) bytes) (halt ((sizes least most).whole front) front (c ∷ bytes)))
          (sym (begins_same (front ++ c ∷ [])) ∙ is)
          ∙ again
      by_test false is again =
          ap (λ b. cond b (scan (sizes least most) (front ++ c ∷ []) bytes) (halt ((sizes least most).whole front) front (c ∷ bytes)))
          (sym (begins_same (front ++ c ∷ [])) ∙ is)
          ∙ halt_same front (c ∷ bytes) ((numerals true most).whole front) refl

  pub size_stops : (bytes : List ℕ) (left : ℕ) → (number true most).at bytes ≡ Err left → (size least most).at bytes ≡ Err left
  unfolding bounded
  size_stops bytes left e = ap (λ r. r >>= valued) (scan_same [] bytes) ∙ by_read (scan (numerals true most) [] bytes) e
    where
      by_read : (r : Result (List ℕ × List ℕ) ℕ) → r >>= valued ≡ Err left
          → bounded r >>= valued ≡ Err left
      by_read (Ok x) e = cc
      by_read (Err l) e = e

  -- what is read of digits is a number
  halt_whole : (b : Bool) (front bytes v rest : List ℕ) → (numerals true most).whole front ≡ b → halt b front bytes ≡ Ok (v, rest)
      → (numerals true most).whole v ≡ true
  halt_whole true front bytes v rest is e = ap (numerals true most).whole (sym (ok_parts e).0) ∙ is
  halt_whole false front bytes v rest is e = cc

  read_whole : (front bytes v rest : List ℕ) → scan (numerals true most) front bytes ≡ Ok (v, rest) → (numerals true most).whole v ≡ true
  read_whole front [] v rest e = halt_whole ((numerals true most).whole front) front [] v rest refl e
  read_whole front (c ∷ bytes) v rest e = by_test ((numerals true most).begins (front ++ c ∷ [])) (read_whole (front ++ c ∷ []) bytes v rest) e
    where
      by_test : (b : Bool) → (scan (numerals true most) (front ++ c ∷ []) bytes ≡ Ok (v, rest) → (numerals true most).whole v ≡ true)
          → cond b (scan (numerals true most) (front ++ c ∷ []) bytes) (halt ((numerals true most).whole front) front (c ∷ bytes)) ≡ Ok (v, rest)
          → (numerals true most).whole v ≡ true
      by_test true again e = again e
      by_test false again e = halt_whole ((numerals true most).whole front) front (c ∷ bytes) v rest refl e

  -- a number as it was read
  record Read (bytes : List ℕ) (n : ℕ) (rest : List ℕ) : Type 0 where
    text : List ℕ
    was : scan (numerals true most) [] bytes ≡ Ok (text, rest)
    value : value_of text ≡ n

  read_of : (bytes : List ℕ) (n : ℕ) (rest : List ℕ) → (number true most).at bytes ≡ Ok (n, rest) → Read bytes n rest
  read_of bytes n rest e = by_read (scan (numerals true most) [] bytes) refl e
    where
      by_read : (r : Result (List ℕ × List ℕ) ℕ) → scan (numerals true most) [] bytes ≡ r
          → r >>= valued ≡ Ok (n, rest) → Read bytes n rest
      by_read (Ok x) is e = let same = ok_parts e in record { text = x.0; was = is ∙ ap (λ t. Ok (x.0, t)) same.1; value = same.0 }
      by_read (Err l) is e = cc

  -- whether it is a number between the bounds
  bounded_whole : (bytes : List ℕ) (n : ℕ) (rest : List ℕ) (b : Bool) → nat_le least n ≡ b → (r : Read bytes n rest) → (sizes least most).whole r.text ≡ b
  bounded_whole bytes n rest b e r =
      let whole = read_whole [] bytes r.text rest r.was in
      let digits : (sizes least most).begins r.text ≡ true = sym (begins_same r.text) ∙ and_left _ _ whole in
      let there : some r.text ≡ true = and_right ((numerals true most).begins r.text) _ whole in
      ap (λ a. a && (some r.text && nat_le least (value_of r.text))) digits
      ∙ ap (λ a. a && nat_le least (value_of r.text)) there
      ∙ ap (nat_le least) r.value ∙ e

  size_by : (bytes : List ℕ) (n : ℕ) (rest : List ℕ) (b : Bool) → nat_le least n ≡ b → (r : Read bytes n rest)
      → (size least most).at bytes ≡ halt b r.text rest >>= valued
  unfolding bounded
  size_by bytes n rest b e r =
      ap (λ r. r >>= valued) (scan_same [] bytes ∙ ap bounded r.was ∙ ap (λ b. halt b r.text rest) (bounded_whole bytes n rest b e r))

  pub size_found : (bytes : List ℕ) (n : ℕ) (rest : List ℕ) → (number true most).at bytes ≡ Ok (n, rest) → least ≤ n
      → (size least most).at bytes ≡ Ok (n, rest)
  size_found bytes n rest e h =
      let r = read_of bytes n rest e in
      size_by bytes n rest true (le-leb least n h) r ∙ ap (λ n. Ok (n, rest)) r.value

  pub size_small : (bytes : List ℕ) (n : ℕ) (rest : List ℕ) → (number true most).at bytes ≡ Ok (n, rest) → n < least
      → (size least most).at bytes ≡ Err (length rest)
  size_small bytes n rest e h = size_by bytes n rest false (lt-leb least n h) (read_of bytes n rest e)
