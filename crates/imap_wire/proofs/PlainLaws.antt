-- Plain bytes, which end no line and announce no literal.
use Rattle.std.proofs.Common.{◌≡◌, ℕ, suc, ◌+◌, ◌-◌, ◌<◌, ◌≤◌, true, false, List, [], ◌∷◌, ◌++◌, length, take, Option, None, Some, is_some, refl, sym, ap, ◌∙◌, arith}
use Rattle.std.specs.List.{AllByRecursion}
use Rattle.std.proofs.lemmas.List.{append-nil, length-append}
use Rattle.std.proofs.lemmas.List.Elements.{All-from_recursion, recursion_from_All}
use Rattle.std.proofs.lemmas.Bool.{false_from_ne_true}
use Rattle.std.proofs.lemmas.Bool.Decides.{nat_tests}
use Rattle.std.proofs.Math.Seq.{take-append-add}
use Rattle.memchr.specs.Find.{IsFirstByte, is_byte3}
use Rattle.mur_base.specs.Ascii.{ends_with_cr}
use Rattle.imap_wire.specs.Front.{IsPlain, IsPlainByte}
use Rattle.imap_wire.specs.Literal.{announced}
use Rattle.imap_wire.proofs.AnnouncedLaws.{announced_behind}
use Rattle.imap_wire.proofs.LineLaws.{length-ends_with_cr}
use Rattle.imap_wire.proofs.MoveLaws.{IsOneLine}

plain_found : (bytes : List ℕ) → IsFirstByte (is_byte3 13 10 123) bytes None → AllByRecursion IsPlainByte bytes
plain_found [] none = tt
plain_found (x ∷ bytes) none =
    (false_from_ne_true (is_byte3 13 10 123 x) (none 0 (omega arith) (omega arith)), plain_found bytes (λ k low within. none (suc k) (omega arith) (omega arith)))

pub plain-found : (bytes : List ℕ) → IsFirstByte (is_byte3 13 10 123) bytes None → IsPlain bytes
plain-found bytes none = All-from_recursion IsPlainByte bytes (plain_found bytes none)

one_line : (bytes : List ℕ) → AllByRecursion IsPlainByte bytes → IsOneLine bytes
one_line [] plain = tt
one_line (x ∷ bytes) plain = (grind (arith, nat_tests), one_line bytes plain.1)

pub plain-one_line : (bytes : List ℕ) → IsPlain bytes → IsOneLine bytes
plain-one_line bytes plain = one_line bytes (recursion_from_All IsPlainByte bytes plain)

cr_plain : (bytes : List ℕ) → AllByRecursion IsPlainByte bytes → ends_with_cr bytes ≡ false
unfolding ends_with_cr
cr_plain [] plain = refl
cr_plain (x ∷ []) plain = grind (arith, nat_tests)
cr_plain (x ∷ y ∷ bytes) plain = cr_plain (y ∷ bytes) plain.1

cr-behind : (front : List ℕ) (y : ℕ) (back : List ℕ) → ends_with_cr (front ++ y ∷ back) ≡ ends_with_cr (y ∷ back)
unfolding ends_with_cr
cr-behind [] y back = refl
cr-behind (x ∷ []) y back = refl
cr-behind (x ∷ z ∷ front) y back = cr-behind (z ∷ front) y back

-- what stands behind plain bytes says alone whether the line ends in CR
pub cr-line : (front back : List ℕ) → IsPlain front → ends_with_cr (front ++ back) ≡ ends_with_cr back
unfolding ends_with_cr
cr-line front [] plain = rw (append-nil front) (cr_plain front (recursion_from_All IsPlainByte front plain))
cr-line front (y ∷ back) plain = cr-behind front y back

pub cr-some : (front back : List ℕ) → IsPlain front → ends_with_cr (front ++ back) ≡ true → 1 ≤ length back
cr-some front back plain cr = length-ends_with_cr back (sym (cr-line front back plain) ∙ cr)

pub announced-line : (front back : List ℕ) → IsPlain front → 1 ≤ length back
    → announced (take (length (front ++ back) - 1) (front ++ back)) ≡ announced (take (length back - 1) back)
announced-line front back plain some =
    let at : length (front ++ back) - 1 ≡ length front + (length back - 1) = omega (arith, length-append front back) in
    ap (λ n. announced (take n (front ++ back))) at ∙ ap announced (take-append-add front back (length back - 1))
    ∙ announced_behind front (take (length back - 1) back) plain

pub plain-none : (bytes : List ℕ) (found : Option ℕ) → is_some found ≡ false → IsFirstByte (is_byte3 13 10 123) bytes found → IsPlain bytes
plain-none bytes None none first = plain-found bytes first
plain-none bytes (Some at) none first = cc
