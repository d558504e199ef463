-- Each string that is spelled has no NUL.
use Rattle.std.proofs.Common.{◌≡◌, ℕ, ◌≤◌, List, [], ◌∷◌, ◌++◌, Bool, true, false, ◌||◌, not, ◌==◌, nat_le, refl, ap, eqb-true, leb-true, arith, ne_eqb, lit≤}
use Rattle.std.specs.List.{list_all}
use Rattle.grammar.specs.Quoted.{is_quoted_plain, is_quoted_special, is_no_quote}
use Rattle.grammar.specs.Part.{◌then◌, map, byte, choose, exactly, repeat, between}
use Rattle.grammar.specs.Words.{word}
use Rattle.grammar.specs.Runs.{run_of}
use Rattle.grammar.specs.Numbers.{value_of}
use Rattle.grammar.proofs.Conditions.{and_left, and_right, and_both}
use Rattle.grammar.proofs.RunLaw.{all_join}
use Rattle.imap_text.specs.Characters.{is_astring_char, is_char8, is_utf8_tail}
use Rattle.imap_text.specs.Utf8.{led, utf8_2, utf8_3, utf8_4, utf8_char}
use Rattle.imap_text.specs.Strings.{quoted_char, quoted, literal, string, astring, IsString}
use Rattle.imap_text.proofs.StringsLaw.{escaped, plain, unescaped}
use Rattle.imap_text.proofs.Values.{Only, only_then, only_map, only_behind, only_choose, only_exactly, only_repeat}

-- a set without NUL
abbrev pub HasNoNul : (ℕ → Bool) → Type 0
HasNoNul test = (c : ℕ) → test c ≡ true → is_char8 c ≡ true

from_one : (low c : ℕ) → 1 ≤ low → nat_le low c ≡ true → is_char8 c ≡ true
unfolding is_char8
from_one low c some h = let above : low ≤ c = leb-true low c h in ap not (ne_eqb c 0 (λ e. absurd (omega arith)))

pub all_char8 : (test : ℕ → Bool) → HasNoNul test → (text : List ℕ) → list_all test text ≡ true → IsString text
all_char8 test to [] h = refl
all_char8 test to (c ∷ text) h = and_both _ _ (to c (and_left _ _ h)) (all_char8 test to text (and_right (test c) _ h))

between_char8 : (low high : ℕ) → 1 ≤ low → HasNoNul (between low high)
between_char8 low high some c h = from_one low c some (and_left _ _ h)

tail_char8 : HasNoNul is_utf8_tail
unfolding is_utf8_tail
tail_char8 c h = from_one 128 c (omega arith) (and_left _ _ h)

plain_char8 : HasNoNul is_quoted_plain
unfolding is_quoted_plain
plain_char8 c h = from_one 1 c (omega arith) (and_left _ _ (and_left _ _ (and_left _ _ (and_left _ _ (and_left _ _ h)))))

special_char8 : HasNoNul is_quoted_special
unfolding is_quoted_special is_char8
special_char8 c h = by_case (c == 34) refl h
  where
    by_case : (b : Bool) → (c == 34) ≡ b → b || c == 92 ≡ true → not (c == 0) ≡ true
    by_case true e h = ap (λ d. not (d == 0)) (eqb-true c 34 e)
    by_case false e h = ap (λ d. not (d == 0)) (eqb-true c 92 h)

pub atom_char8 : HasNoNul is_astring_char
unfolding is_astring_char
atom_char8 c h = from_one 33 c (omega arith) (and_left _ _ (and_left _ _ h))

-- bytes of a set without NUL behind a string
only_put : (test : ℕ → Bool) → HasNoNul test → (n : ℕ) (so_far : List ℕ) → IsString so_far → Only (map (λ char. so_far ++ char) (exactly test n)) IsString
only_put test to n so_far before =
    only_map (λ char. so_far ++ char) (exactly test n) IsString
    (λ bytes char l. all_join is_char8 so_far char before (all_char8 test to char (only_exactly test n bytes char l)))

module _ (so_far : List ℕ) (before : IsString so_far) where
  only_led : (low high second_low second_high tails : ℕ) → 1 ≤ low → 1 ≤ second_low → Only (led low high second_low second_high tails so_far) IsString
  unfolding led
  only_led low high second_low second_high tails one two bytes value j =
      let first = only_exactly (between low high) 1 j.front j.between j.begins in
      let k = j.goes_on in
      let second = only_exactly (between second_low second_high) 1 k.front k.between k.begins in
      only_map (λ rest. so_far ++ j.between ++ k.between ++ rest) (exactly is_utf8_tail tails) IsString
      (λ bytes rest l. all_join is_char8 (so_far ++ j.between ++ k.between) rest
      (all_join is_char8 (so_far ++ j.between) k.between
      (all_join is_char8 so_far j.between before (all_char8 (between low high) (between_char8 low high one) j.between first))
      (all_char8 (between second_low second_high) (between_char8 second_low second_high two) k.between second))
      (all_char8 is_utf8_tail tail_char8 rest (only_exactly is_utf8_tail tails bytes rest l)))
      k.back value k.goes_on

  only_utf8_2 : Only (utf8_2 so_far) IsString
  unfolding utf8_2
  only_utf8_2 = only_led 194 223 128 191 0 (lit≤ tt) (lit≤ tt)

  only_utf8_3 : Only (utf8_3 so_far) IsString
  unfolding utf8_3
  only_utf8_3 =
      only_choose IsString (between 224 224) (led 224 224 160 191 1 so_far)
      (choose (between 225 236) (led 225 236 128 191 1 so_far) (choose (between 237 237) (led 237 237 128 159 1 so_far) (led 238 239 128 191 1 so_far)))
      (only_led 224 224 160 191 1 (lit≤ tt) (lit≤ tt))
      (only_choose IsString (between 225 236) (led 225 236 128 191 1 so_far)
      (choose (between 237 237) (led 237 237 128 159 1 so_far) (led 238 239 128 191 1 so_far))
      (only_led 225 236 128 191 1 (lit≤ tt) (lit≤ tt))
      (only_choose IsString (between 237 237) (led 237 237 128 159 1 so_far) (led 238 239 128 191 1 so_far)
      (only_led 237 237 128 159 1 (lit≤ tt) (lit≤ tt)) (only_led 238 239 128 191 1 (lit≤ tt) (lit≤ tt))))

  only_utf8_4 : Only (utf8_4 so_far) IsString
  unfolding utf8_4
  only_utf8_4 =
      only_choose IsString (between 240 240) (led 240 240 144 191 2 so_far)
      (choose (between 241 243) (led 241 243 128 191 2 so_far) (led 244 244 128 143 2 so_far))
      (only_led 240 240 144 191 2 (lit≤ tt) (lit≤ tt))
      (only_choose IsString (between 241 243) (led 241 243 128 191 2 so_far) (led 244 244 128 143 2 so_far)
      (only_led 241 243 128 191 2 (lit≤ tt) (lit≤ tt)) (only_led 244 244 128 143 2 (lit≤ tt) (lit≤ tt)))

  only_utf8 : Only (utf8_char so_far) IsString
  unfolding utf8_char
  only_utf8 =
      only_choose IsString (between 194 223) (utf8_2 so_far) (choose (between 224 239) (utf8_3 so_far) (utf8_4 so_far)) only_utf8_2
      (only_choose IsString (between 224 239) (utf8_3 so_far) (utf8_4 so_far) only_utf8_3 only_utf8_4)

  only_quoted_char : Only (quoted_char so_far) IsString
  unfolding quoted_char
  only_quoted_char =
      only_choose IsString (λ c. c == 92) (escaped so_far) (unescaped so_far)
      (only_behind IsString 92 (map (λ char. so_far ++ char) (exactly is_quoted_special 1)) (only_put is_quoted_special special_char8 1 so_far before))
      (only_choose IsString is_quoted_plain (plain so_far) (utf8_char so_far) (only_put is_quoted_plain plain_char8 1 so_far before) only_utf8)

only_quoted : Only quoted IsString
unfolding quoted
only_quoted =
    only_behind IsString 34 (repeat is_no_quote quoted_char [] then λ text. map (λ _. text) (byte 34))
    (only_then (repeat is_no_quote quoted_char []) (λ text. map (λ _. text) (byte 34)) IsString IsString
    (only_repeat IsString is_no_quote quoted_char only_quoted_char [] refl) (λ text h. only_map (λ _. text) (byte 34) IsString (λ bytes c l. h)))

pub only_literal : Only literal IsString
unfolding literal
only_literal bytes value j =
    let digits = j.goes_on in
    let plus = digits.goes_on in
    let brace = plus.goes_on in
    let line = brace.goes_on in
    only_exactly is_char8 (value_of digits.between) line.back value line.goes_on

pub only_string : Only string IsString
unfolding string
only_string = only_choose IsString (λ c. c == 34) quoted literal only_quoted only_literal

pub only_astring : Only astring IsString
unfolding astring
only_astring =
    only_choose IsString is_astring_char (word (run_of is_astring_char)) string
    (λ bytes text l. all_char8 is_astring_char atom_char8 text (and_left _ _ l.1)) only_string
