-- Strings are exact parts.
use Rattle.std.proofs.Common.{◌≡◌, ℕ, ◌<◌, ◌≤◌, List, [], ◌∷◌, ◌++◌, Bool, true, false, ◌&&◌, not, ◌==◌, nat_le, Ok, refl, ap, eqb-true, leb-true, arith, ne_eqb}
use borrow.Author.Tests.{lt-leb}
use Rattle.grammar.specs.Quoted.{is_quoted_plain, is_quoted_special, is_no_quote}
use Rattle.grammar.specs.Part.{Part, give, ◌then◌, map, byte, choose, exactly, optional, repeat, between}
use Rattle.grammar.specs.Exact.{Good, Begins, StartsWith, any, among}
use Rattle.grammar.specs.Words.{word}
use Rattle.grammar.specs.Runs.{run_of}
use Rattle.mur_base.specs.Number.{is_digit}
use Rattle.grammar.specs.Numbers.{value_of}
use Rattle.grammar.proofs.Conditions.{and_left, and_right, and_false, and_false_right, not_true, among_all}
use Rattle.grammar.proofs.SequenceLaw.{good_then, good_map}
use Rattle.grammar.proofs.ChoiceLaw.{good_choose}
use Rattle.grammar.proofs.WordLaw.{good_word}
use Rattle.grammar.proofs.RunLaw.{lawful_run, apart_run}
use Rattle.grammar.proofs.RepetitionLaw.{good_exactly, good_repeat, begins_any}
use Rattle.grammar.proofs.StartLaw.{starts_then, starts_exactly, starts_byte, starts_word, starts_choose, starts_weaker, begins_from, without_from}
use Rattle.grammar.proofs.QuotedRuns.{plain_no_quote, plain_no_backslash, plain_is_no_backslash}
use Rattle.grammar.proofs.ToolLaws.{good_byte, good_behind, good_optional, begins_optional, begins_then}
use Rattle.imap_text.specs.Characters.{is_astring_char, is_char8}
use Rattle.imap_text.specs.Utf8.{utf8_char}
use Rattle.imap_text.specs.Strings.{crlf_part, quoted_char, quoted, literal, string, astring}
use Rattle.imap_text.proofs.Utf8Law.{ranged_utf8}

-- the first byte of a character of more bytes than one is no byte of 7 bits
above_seven : (c : ℕ) → between 194 244 c ≡ true → 127 < c
above_seven c h = let from : 194 ≤ c = leb-true 194 c (and_left _ _ h) in omega arith

not_plain : (c : ℕ) → between 194 244 c ≡ true → is_quoted_plain c ≡ false
unfolding is_quoted_plain
not_plain c h =
    let seven : nat_le c 127 ≡ false = lt-leb c 127 (above_seven c h) in
    and_false _ _ (and_false _ _ (and_false _ _ (and_false _ _ (and_false_right (nat_le 1 c) _ seven))))

not_byte : (d : ℕ) → d ≤ 127 → (c : ℕ) → between 194 244 c ≡ true → not (c == d) ≡ true
not_byte d small c h = ap not (ne_eqb c d (λ e. absurd (omega (arith, above_seven c h))))

-- a character that stands for itself is put after the text so far
pub puts_plain : (so_far : List ℕ) (c : ℕ) (rest : List ℕ) → is_quoted_plain c ≡ true → (quoted_char so_far).at (c ∷ rest) ≡ Ok (so_far ++ c ∷ [], rest)
unfolding quoted_char exactly
puts_plain so_far c rest h = rw (plain_is_no_backslash c h, h) refl

-- a backslash and what may stand behind it
abbrev pub escaped : List ℕ → Part (List ℕ)
escaped so_far = byte 92 then λ _. map (λ char. so_far ++ char) (exactly is_quoted_special 1)

-- a character that stands for itself
abbrev pub plain : List ℕ → Part (List ℕ)
plain so_far = map (λ char. so_far ++ char) (exactly is_quoted_plain 1)

abbrev pub unescaped : List ℕ → Part (List ℕ)
unescaped so_far = choose is_quoted_plain (plain so_far) (utf8_char so_far)

starts_escaped : (so_far : List ℕ) → StartsWith (λ c. c == 92) (escaped so_far)
starts_escaped so_far = starts_then (byte 92) (λ _. map (λ char. so_far ++ char) (exactly is_quoted_special 1)) (starts_byte 92)

starts_plain : (so_far : List ℕ) → StartsWith is_quoted_plain (plain so_far)
starts_plain so_far = starts_then (exactly is_quoted_plain 1) (λ char. give (so_far ++ char)) (starts_exactly is_quoted_plain 0)

starts_utf8 : (so_far : List ℕ) → StartsWith (between 194 244) (utf8_char so_far)
starts_utf8 so_far = (ranged_utf8 {V = ℕ} any so_far).starts

-- no character begins with a byte that no plain one is, unless it is escaped
starts_unescaped : (so_far : List ℕ) (d : ℕ) → d ≤ 127 → ((c : ℕ) → is_quoted_plain c ≡ true → not (c == d) ≡ true)
    → StartsWith (λ c. not (c == d)) (unescaped so_far)
starts_unescaped so_far d small other =
    starts_choose is_quoted_plain (plain so_far) (utf8_char so_far) (starts_weaker (plain so_far) other (starts_plain so_far))
    (starts_weaker (utf8_char so_far) (not_byte d small) (starts_utf8 so_far))

starts_quoted_char : (so_far : List ℕ) → StartsWith is_no_quote (quoted_char so_far)
unfolding quoted_char
starts_quoted_char so_far =
    starts_choose (λ c. c == 92) (escaped so_far) (unescaped so_far)
    (starts_weaker (escaped so_far) (λ c h. ap (λ d. not (d == 34)) (eqb-true c 92 h)) (starts_escaped so_far))
    (starts_unescaped so_far 34 (omega arith) plain_no_quote)

starts_quoted : StartsWith (λ c. c == 34) quoted
unfolding quoted
starts_quoted = starts_then (byte 34) (λ _. repeat is_no_quote quoted_char [] then λ text. map (λ _. text) (byte 34)) (starts_byte 34)

-- what stands behind the length of a literal
abbrev pub octets : ℕ → Part (List ℕ)
octets n = crlf_part then λ _. exactly is_char8 n

abbrev pub behind_length : List ℕ → Part (List ℕ)
behind_length digits = optional 43 then λ _. byte 125 then λ _. octets (value_of digits)

starts_literal : StartsWith (λ c. c == 123) literal
unfolding literal
starts_literal = starts_then (byte 123) (λ _. word (run_of is_digit) then behind_length) (starts_byte 123)

-- the bytes that strings begin with
abbrev pub string_starts : ℕ → Bool
string_starts = among (34 ∷ 123 ∷ [])

pub starts_string : StartsWith string_starts string
unfolding string
starts_string =
    starts_choose (λ c. c == 34) quoted literal (starts_weaker quoted (λ c h. ap string_starts (eqb-true c 34 h)) starts_quoted)
    (starts_weaker literal (λ c h. ap string_starts (eqb-true c 123 h)) starts_literal)

no_astring_char : (c : ℕ) → string_starts c ≡ true → is_astring_char c ≡ false
unfolding is_astring_char
no_astring_char c h = not_true (is_astring_char c) (among_all (λ c. not (is_astring_char c)) (34 ∷ 123 ∷ []) refl c h)

-- what stands behind the digits of a literal's length
abbrev behind_digits : ℕ → Bool
behind_digits = among (43 ∷ 125 ∷ [])

no_digit : (c : ℕ) → behind_digits c ≡ true → is_digit c ≡ false
unfolding is_digit
no_digit c h = not_true (is_digit c) (among_all (λ c. not (is_digit c)) (43 ∷ 125 ∷ []) refl c h)

module _ {V : Type 0} (after : ℕ → Bool) where
  pub good_crlf : Good V after crlf_part
  unfolding crlf_part
  good_crlf = good_behind 13 (byte 10) (good_byte after 10)

  good_escaped : (so_far : List ℕ) → Good V after (escaped so_far)
  unfolding is_quoted_special
  good_escaped so_far = good_behind 92 (map (λ char. so_far ++ char) (exactly is_quoted_special 1))
      (good_map (λ char. so_far ++ char) (exactly is_quoted_special 1) (good_exactly is_quoted_special after 34 refl 1))

  good_plain : (so_far : List ℕ) → Good V after (plain so_far)
  unfolding is_quoted_plain
  good_plain so_far = good_map (λ char. so_far ++ char) (exactly is_quoted_plain 1) (good_exactly is_quoted_plain after 97 refl 1)

  good_unescaped : (so_far : List ℕ) → Good V after (unescaped so_far)
  good_unescaped so_far =
      good_choose is_quoted_plain (plain so_far) (utf8_char so_far) (good_plain so_far) (ranged_utf8 after so_far).good (starts_plain so_far)
      (without_from is_quoted_plain after (utf8_char so_far) not_plain (starts_utf8 so_far))

  good_quoted_char : (so_far : List ℕ) → Good V after (quoted_char so_far)
  unfolding quoted_char
  good_quoted_char so_far =
      good_choose (λ c. c == 92) (escaped so_far) (unescaped so_far) (good_escaped so_far) (good_unescaped so_far) (starts_escaped so_far)
      (without_from (λ c. c == 92) after (unescaped so_far) (λ c h. not_true (c == 92) h) (starts_unescaped so_far 92 (omega arith) plain_no_backslash))

begins_behind_length : (after : ℕ → Bool) (digits : List ℕ) → Begins behind_digits after (behind_length digits)
begins_behind_length after digits =
    begins_then (optional 43) (λ _. byte 125 then λ _. octets (value_of digits))
    (begins_optional (λ c. c == 125) 43 refl (λ c h. ap behind_digits (eqb-true c 125 h)))
    (λ _. begins_from after (byte 125 then λ _. octets (value_of digits)) (starts_then (byte 125) (λ _. octets (value_of digits)) (starts_byte 125)))

module _ {V : Type 0} (after : ℕ → Bool) where
  good_quoted : Good V after quoted
  unfolding quoted
  good_quoted =
      good_behind 34 (repeat is_no_quote quoted_char [] then λ text. map (λ _. text) (byte 34))
      (good_then (repeat is_no_quote quoted_char []) (λ text. map (λ _. text) (byte 34))
      (good_repeat is_no_quote (λ c. c == 34) any quoted_char (good_quoted_char any) starts_quoted_char (λ c h. ap not h) (λ _ _. refl) (λ _ _. refl) [])
      (λ text. good_map (λ _. text) (byte 34) (good_byte after 34))
      (λ text. begins_from after (map (λ _. text) (byte 34)) (starts_then (byte 34) (λ _. give text) (starts_byte 34))))

  good_octets : (n : ℕ) → Good V after (octets n)
  unfolding is_char8
  good_octets n = good_then crlf_part (λ _. exactly is_char8 n) (good_crlf any) (λ _. good_exactly is_char8 after 1 refl n)
      (λ _. begins_any after (exactly is_char8 n))

  good_behind_length : (digits : List ℕ) → Good V after (behind_length digits)
  good_behind_length digits =
      good_then (optional 43) (λ _. byte 125 then λ _. octets (value_of digits))
      (good_optional (λ c. c == 125) 43 (λ c h. ap (λ d. d == 43) (eqb-true c 125 h)))
      (λ _. good_behind 125 (octets (value_of digits)) (good_octets (value_of digits)))
      (λ _. begins_from after (byte 125 then λ _. octets (value_of digits)) (starts_then (byte 125) (λ _. octets (value_of digits)) (starts_byte 125)))

  pub good_literal : Good V after literal
  unfolding literal is_digit
  good_literal =
      good_behind 123 (word (run_of is_digit) then behind_length)
      (good_then (word (run_of is_digit)) behind_length
      (good_word (run_of is_digit) (lawful_run is_digit 48 refl) behind_digits (apart_run is_digit behind_digits no_digit))
      good_behind_length (begins_behind_length after))

  pub good_string : Good V after string
  unfolding string
  good_string =
      good_choose (λ c. c == 34) quoted literal good_quoted good_literal starts_quoted
      (without_from (λ c. c == 34) after literal (λ c h. ap (λ d. d == 34) (eqb-true c 123 h)) starts_literal)

  -- an astring, before a byte that is no ASTRING-CHAR
  pub good_astring : ((c : ℕ) → after c ≡ true → is_astring_char c ≡ false) → Good V after astring
  unfolding astring is_astring_char
  good_astring apart =
      good_choose is_astring_char (word (run_of is_astring_char)) string
      (good_word (run_of is_astring_char) (lawful_run is_astring_char 97 refl) after (apart_run is_astring_char after apart)) good_string
      (starts_word (run_of is_astring_char) is_astring_char (lawful_run is_astring_char 97 refl) refl (λ c h. and_left (is_astring_char c) true h))
      (without_from is_astring_char after string no_astring_char starts_string)
