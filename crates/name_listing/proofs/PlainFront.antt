-- What stands before the first wildcard of a pattern stands for itself, so a text that matches begins so.
use Rattle.std.proofs.Common.{◌≡◌, ℕ, zero, suc, ◌≤◌, ◌<◌, ◌+◌, ◌-◌, ◌==◌, Bool, true, false, ◌&&◌, nat_eq, List, [], ◌∷◌, length, take, drop, get_or, refl, sym, ap, ◌∙◌, subst, arith}
use Rattle.std.proofs.lemmas.Bool.Decides.{nat_tests}
use Rattle.std.proofs.lemmas.List.Elements.{All-cons, All-head, All-nil, All-tail}
use Rattle.std.specs.Prelude.{All}
use Rattle.std.proofs.lemmas.List.{take_rest}
use Rattle.std.specs.List.{starts_with}
use Rattle.std.specs.Cmp.Lexicographic.{pointwise}
use Rattle.mur_base.specs.Patterns.{matches, behind_one, is_wildcard}
use Rattle.name_listing.specs.Listing.{IsPlainFront}
use Rattle.name_listing.proofs.Wildcards.{plain_byte}

same_bytes : (one other : ℕ) → (other == one) ≡ nat_eq one other
same_bytes one other = grind (arith, nat_tests)

both : (x y p q : Bool) → x ≡ y → (x && (p && q)) ≡ ((y && p) && q)
both true y p q e = subst_true y p q e
  where
    subst_true : (y p q : Bool) → true ≡ y → (p && q) ≡ ((y && p) && q)
    subst_true true p q e = refl
    subst_true false p q e = cc
both false y p q e = subst_false y p q e
  where
    subst_false : (y p q : Bool) → false ≡ y → false ≡ ((y && p) && q)
    subst_false true p q e = cc
    subst_false false p q e = refl

pub front_fits : (front : ℕ) (pattern text : List ℕ) → IsPlainFront front pattern
    → matches pattern text ≡ (starts_with nat_eq text (take front pattern) && matches (drop front pattern) (drop front text))
unfolding matches behind_one
front_fits zero pattern text is = refl
front_fits (suc n) [] text is = absurd (omega (arith, is.0))
front_fits (suc n) (byte ∷ pattern) [] is =
    plain_byte byte (matches pattern) [] (All-head (λ b. is_wildcard b ≡ false) byte (take n pattern) is.1)
front_fits (suc n) (byte ∷ pattern) (c ∷ text) is =
    plain_byte byte (matches pattern) (c ∷ text) (All-head (λ b. is_wildcard b ≡ false) byte (take n pattern) is.1)
    ∙ ap (λ b. (c == byte) && b) (front_fits n pattern text (omega (arith, is.0), All-tail (λ b. is_wildcard b ≡ false) byte (take n pattern) is.1))
    ∙ both (c == byte) (nat_eq byte c) (starts_with nat_eq text (take n pattern)) (matches (drop n pattern) (drop n text)) (same_bytes byte c)

-- ---- it is counted

abbrev IsPlain : ℕ → Type 0
IsPlain byte = is_wildcard byte ≡ false

more_plain : (bytes : List ℕ) (i : ℕ) → i < length bytes → is_wildcard (get_or bytes i 0) ≡ false
    → All (λ byte. is_wildcard byte ≡ false) (take i bytes) → All (λ byte. is_wildcard byte ≡ false) (take (suc i) bytes)
more_plain [] i less plain all = absurd (omega (arith, less))
more_plain (byte ∷ bytes) zero less plain all = All-cons IsPlain byte [] plain (All-nil IsPlain)
more_plain (byte ∷ bytes) (suc i) less plain all =
    All-cons IsPlain byte (take (suc i) bytes) (All-head IsPlain byte (take i bytes) all)
    (more_plain bytes i (omega (arith, less)) plain (All-tail IsPlain byte (take i bytes) all))

pub one_more : (bytes : List ℕ) (i : ℕ) → i < length bytes → is_wildcard (get_or bytes i 0) ≡ false
    → All (λ byte. is_wildcard byte ≡ false) (take i bytes) → All (λ byte. is_wildcard byte ≡ false) (take (i + 1) bytes)
one_more bytes i less plain all =
    let next : suc i ≡ i + 1 = omega arith in
    subst (λ n. All (λ byte. is_wildcard byte ≡ false) (take n bytes)) next (more_plain bytes i less plain all)

pub none_yet : (bytes : List ℕ) → All (λ byte. is_wildcard byte ≡ false) (take 0 bytes)
none_yet bytes = All-nil IsPlain

-- ---- a text is compared with it

-- what stands behind it
abbrev rest_matches : ℕ → List ℕ → List ℕ → Bool
rest_matches front bytes text = matches (take (length bytes - front) (drop front bytes)) (take (length text - front) (drop front text))

pub fits_so : (front : ℕ) (pattern text bytes : List ℕ) (starts rest : Bool) → pattern ≡ bytes → IsPlainFront front bytes
    → starts ≡ starts_with nat_eq text (take front bytes) → starts ≡ true → rest ≡ rest_matches front bytes text → rest ≡ matches pattern text
fits_so front pattern text bytes starts rest same is begins so tells =
    tells ∙ ap (λ p. matches p (take (length text - front) (drop front text))) (take_rest bytes front) ∙ ap (matches (drop front bytes)) (take_rest text front)
    ∙ sym (ap (λ p. matches p text) same ∙ front_fits front bytes text is
    ∙ ap (λ b. b && matches (drop front bytes) (drop front text)) (sym begins ∙ so))

pub fits_none : (front : ℕ) (pattern text bytes : List ℕ) (starts : Bool) → pattern ≡ bytes → IsPlainFront front bytes
    → starts ≡ starts_with nat_eq text (take front bytes) → starts ≡ false → starts ≡ matches pattern text
fits_none front pattern text bytes starts same is begins so =
    so ∙ sym (ap (λ p. matches p text) same ∙ front_fits front bytes text is
    ∙ ap (λ b. b && matches (drop front bytes) (drop front text)) (sym begins ∙ so))
