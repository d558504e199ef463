-- Strings, names and locations are exact parts.
use Rattle.std.proofs.Common.{◌≡◌, ℕ, ◌*◌, ◌<◌, ◌≤◌, List, [], ◌∷◌, ◌++◌, Bool, true, false, not, ◌==◌, refl, ap, eqb-true, arith, max}
use Rattle.grammar.specs.Part.{Part, give, ◌then◌, map, byte, exactly, optional, turns}
use Rattle.grammar.specs.Exact.{Good, Begins, StartsWith, any, among}
use Rattle.grammar.specs.Words.{word}
use Rattle.grammar.specs.Numbers.{value_of}
use Rattle.mur_base.specs.Number.{is_digit}
use Rattle.mur_base.specs.Names.{is_short_name_byte}
use Rattle.mur_base.specs.declared.home.Location.{Location}
use Rattle.mur_base.specs.declared.limits.TheConstants.{SHORT_NAME_LIMIT}
use Rattle.grammar.proofs.Conditions.{not_true, among_all}
use Rattle.grammar.proofs.SequenceLaw.{good_then, good_map}
use Rattle.grammar.proofs.ChoiceLaw.{good_choose}
use Rattle.grammar.proofs.WordLaw.{good_word}
use Rattle.grammar.proofs.RunLaw.{lawful_run_upto, apart_run_upto}
use Rattle.grammar.proofs.RepetitionLaw.{good_exactly, good_turns, begins_any}
use Rattle.grammar.proofs.StartLaw.{starts_then, starts_exactly, starts_byte, starts_choose, starts_weaker, begins_from, without_from}
use Rattle.grammar.proofs.ToolLaws.{good_byte, good_behind, good_optional, begins_optional, begins_then}
use Rattle.mupdate_codec.specs.declared.limits.TheConstants.{STRING_LIMIT, NAME_BYTES, LOCATION_LEAST, LOCATION_MOST}
use Rattle.grammar.specs.Quoted.{is_quoted_plain, is_quoted_special, is_no_quote}
use Rattle.mupdate_codec.specs.Sizes.{sizes, size}
use Rattle.mupdate_codec.specs.Strings.{mupdate_quoted_char, in_quotes, header, either_form, mupdate_string, name, location}
use Rattle.text_parts.specs.Locations.{located, short_names, location_of, clamped}
use Rattle.text_parts.specs.Names.{start_of, quoted_names, names_of_size}
use Rattle.text_parts.proofs.LevelLaw.{fits_start, lawful_names, apart_sized, apart_quote}
use Rattle.text_parts.proofs.LocationsLaw.{is_bang, no_bang, starts_bang, good_location_of}
use Rattle.mupdate_codec.proofs.SizesLaw.{lawful_sizes, apart_sizes}
use Rattle.grammar.proofs.QuotedRuns.{plain_no_quote, plain_no_backslash}

-- a quote
abbrev pub is_quote : ℕ → Bool
is_quote c = c == 34

module _ {A : Type 0} where
  starts_quotes : (p : Part A) → StartsWith is_quote (in_quotes p)
  starts_quotes p = starts_then (byte 34) (λ _. p then λ a. map (λ _. a) (byte 34)) (starts_byte 34)

  good_quotes : {V : Type 0} (after : ℕ → Bool) (p : Part A) → Good V is_quote p → Good V after (in_quotes p)
  good_quotes after p g =
      good_behind 34 (p then λ a. map (λ _. a) (byte 34))
      (good_then p (λ a. map (λ _. a) (byte 34)) g (λ a. good_map (λ _. a) (byte 34) (good_byte after 34))
      (λ a. begins_from after (map (λ _. a) (byte 34)) (starts_then (byte 34) (λ _. give a) (starts_byte 34))))

-- the characters of a string in quotes

abbrev pub escaped : List ℕ → Part (List ℕ)
escaped so_far = byte 92 then λ _. map (λ char. so_far ++ char) (exactly is_quoted_special 1)

abbrev pub plain : List ℕ → Part (List ℕ)
plain so_far = map (λ char. so_far ++ char) (exactly is_quoted_plain 1)

starts_escaped : (so_far : List ℕ) → StartsWith (λ c. c == 92) (escaped so_far)
starts_escaped so_far = starts_then (byte 92) (λ _. map (λ char. so_far ++ char) (exactly is_quoted_special 1)) (starts_byte 92)

starts_plain : (so_far : List ℕ) → StartsWith is_quoted_plain (plain so_far)
starts_plain so_far = starts_then (exactly is_quoted_plain 1) (λ char. give (so_far ++ char)) (starts_exactly is_quoted_plain 0)

starts_quoted_char : (so_far : List ℕ) → StartsWith is_no_quote (mupdate_quoted_char so_far)
unfolding mupdate_quoted_char
starts_quoted_char so_far =
    starts_choose (λ c. c == 92) (escaped so_far) (plain so_far)
    (starts_weaker (escaped so_far) (λ c h. ap (λ d. not (d == 34)) (eqb-true c 92 h)) (starts_escaped so_far))
    (starts_weaker (plain so_far) plain_no_quote (starts_plain so_far))

good_quoted_char : {V : Type 0} (after : ℕ → Bool) (so_far : List ℕ) → Good V after (mupdate_quoted_char so_far)
unfolding mupdate_quoted_char is_quoted_special is_quoted_plain
good_quoted_char after so_far =
    good_choose (λ c. c == 92) (escaped so_far) (plain so_far)
    (good_behind 92 (map (λ char. so_far ++ char) (exactly is_quoted_special 1))
    (good_map (λ char. so_far ++ char) (exactly is_quoted_special 1) (good_exactly is_quoted_special after 34 refl 1)))
    (good_map (λ char. so_far ++ char) (exactly is_quoted_plain 1) (good_exactly is_quoted_plain after 97 refl 1)) (starts_escaped so_far)
    (without_from (λ c. c == 92) after (plain so_far) (λ c h. not_true (c == 92) (plain_no_backslash c h)) (starts_plain so_far))

good_chars : {V : Type 0} (most : ℕ) → Good V is_quote (turns is_no_quote mupdate_quoted_char most [])
good_chars most =
    good_turns is_no_quote is_quote any mupdate_quoted_char (good_quoted_char any) starts_quoted_char (λ c h. ap not h) (λ _ _. refl) (λ _ _. refl) most []

-- the header of a literal

abbrev behind_digits : ℕ → Bool
behind_digits = among (43 ∷ 125 ∷ [])

no_digit : (c : ℕ) → behind_digits c ≡ true → is_digit c ≡ false
unfolding is_digit
no_digit c h = not_true (is_digit c) (among_all (λ c. not (is_digit c)) (43 ∷ 125 ∷ []) refl c h)

abbrev pub line_end : ℕ → Part ℕ
line_end n = byte 13 then λ _. map (λ _. n) (byte 10)

abbrev pub behind_size : ℕ → Part ℕ
behind_size n = optional 43 then λ _. byte 125 then λ _. line_end n

begins_behind_size : (after : ℕ → Bool) (n : ℕ) → Begins behind_digits after (behind_size n)
begins_behind_size after n =
    begins_then (optional 43) (λ _. byte 125 then λ _. line_end n) (begins_optional (λ c. c == 125) 43 refl (λ c h. ap behind_digits (eqb-true c 125 h)))
    (λ _. begins_from after (byte 125 then λ _. line_end n) (starts_then (byte 125) (λ _. line_end n) (starts_byte 125)))

good_behind_size : {V : Type 0} (after : ℕ → Bool) (n : ℕ) → Good V after (behind_size n)
good_behind_size after n =
    good_then (optional 43) (λ _. byte 125 then λ _. line_end n) (good_optional (λ c. c == 125) 43 (λ c h. ap (λ d. d == 43) (eqb-true c 125 h)))
    (λ _. good_behind 125 (line_end n) (good_behind 13 (map (λ _. n) (byte 10)) (good_map (λ _. n) (byte 10) (good_byte after 10))))
    (λ _. begins_from after (byte 125 then λ _. line_end n) (starts_then (byte 125) (λ _. line_end n) (starts_byte 125)))

pub good_header : {V : Type 0} (after : ℕ → Bool) (least most : ℕ) → least < 10 → 10 * least ≤ most → Good V after (header least most)
good_header after least most small room =
    good_behind 123 (size least most then behind_size)
    (good_then (size least most) behind_size
    (good_map value_of (word (sizes least most))
    (good_word (sizes least most) (lawful_sizes least most small room) behind_digits (apart_sizes least most behind_digits no_digit)))
    (good_behind_size after) (begins_behind_size after))

starts_header : (least most : ℕ) → StartsWith (λ c. c == 123) (header least most)
starts_header least most = starts_then (byte 123) (λ _. size least most then behind_size) (starts_byte 123)

-- the one between quotes, or the other
module _ {A : Type 0} (p : Part A) (least most : ℕ) (f : ℕ → Part A) where
  starts_literal : StartsWith (λ c. c == 123) (header least most then f)
  starts_literal = starts_then (header least most) f (starts_header least most)

  good_either : {V : Type 0} (after : ℕ → Bool) → least < 10 → 10 * least ≤ most → Good V is_quote p → ((n : ℕ) → Good V after (f n))
      → Good V after (either_form (in_quotes p) (header least most then f))
  good_either after small room g h =
      good_choose is_quote (in_quotes p) (header least most then f) (good_quotes after p g)
      (good_then (header least most) f (good_header any least most small room) h (λ n. begins_any after (f n))) (starts_quotes p)
      (without_from is_quote after (header least most then f) (λ c h. ap (λ d. d == 34) (eqb-true c 123 h)) starts_literal)

module _ {V : Type 0} (after : ℕ → Bool) where
  pub good_string : Good V after mupdate_string
  unfolding mupdate_string
  good_string =
      good_either (turns is_no_quote mupdate_quoted_char STRING_LIMIT []) 0 STRING_LIMIT (λ n. exactly any n) after (omega arith) (omega arith) (good_chars STRING_LIMIT)
      (λ n. good_exactly any after 97 refl n)

  pub good_name : Good V after name
  unfolding name
  good_name =
      good_either (word quoted_names) 1 NAME_BYTES (λ n. word (names_of_size n)) after (omega arith) (omega arith)
      (good_word quoted_names (lawful_names false (start_of false NAME_BYTES) (fits_start false NAME_BYTES (omega arith)) (λ _. refl)) is_quote
      (apart_quote (start_of false NAME_BYTES) (fits_start false NAME_BYTES (omega arith)) refl))
      (λ n. good_word (names_of_size n) (lawful_names true (start_of true (max 1 n)) (fits_start true (max 1 n) (omega arith)) (λ h. cc)) after
      (apart_sized (start_of true (max 1 n)) after))

-- locations

short_quote : (c : ℕ) → is_quote c ≡ true → is_short_name_byte c ≡ false
unfolding is_short_name_byte
short_quote c h = ap is_short_name_byte (eqb-true c 34 h)

good_short : {V : Type 0} (after : ℕ → Bool) → ((c : ℕ) → after c ≡ true → is_short_name_byte c ≡ false) → Good V after (word short_names)
unfolding is_short_name_byte
good_short after ends =
    good_word short_names (lawful_run_upto is_short_name_byte SHORT_NAME_LIMIT 97 refl (omega arith)) after
    (apart_run_upto is_short_name_byte SHORT_NAME_LIMIT after ends)

module _ {V : Type 0} (after : ℕ → Bool) where
  pub good_location : Good V after location
  unfolding location
  good_location =
      let rest : List ℕ → Part Location = λ server. byte 33 then λ _. map (located server) (word short_names) in
      good_either (word short_names then rest) LOCATION_LEAST LOCATION_MOST (λ n. location_of (clamped LOCATION_LEAST LOCATION_MOST n)) after (omega arith) (omega arith)
      (good_then (word short_names) rest (good_short is_bang no_bang)
      (λ server. good_behind 33 (map (located server) (word short_names)) (good_map (located server) (word short_names) (good_short is_quote short_quote)))
      (λ server. begins_from is_quote (rest server) (starts_bang (map (located server) (word short_names)))))
      (λ n. good_location_of after (clamped LOCATION_LEAST LOCATION_MOST n) (omega arith) (omega arith))
