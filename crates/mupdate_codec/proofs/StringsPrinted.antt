-- A printed string, name or location is a spelling of it.
use Rattle.std.proofs.Common.{◌≡◌, ℕ, zero, suc, ◌+◌, ◌≤◌, List, [], ◌∷◌, ◌++◌, length, Bool, true, false, cond, inl, inr, nat_le, nat_lt, None, refl, sym, ap, subst}
use Rattle.std.proofs.Common.{append-nil, append_assoc, length-append, arith, leb-true, le-leb}
use Rattle.std.proofs.lemmas.Bool.Decides.{nat_tests}
use Rattle.std.specs.List.{list_all}
use Rattle.mur_base.specs.Number.{is_digit}
use Rattle.mur_base.specs.Names.{mail_name_fault}
use Rattle.mur_base.proofs.NamesFit.{name_fits}
use Rattle.mur_base.specs.declared.home.Location.{Location}
use Rattle.grammar.specs.Part.{Part, ◌then◌, map, byte, exactly, optional, turns}
use Rattle.grammar.specs.Exact.{any}
use Rattle.grammar.specs.Forms.{Law}
use Rattle.grammar.specs.Words.{word}
use Rattle.grammar.specs.Runs.{some}
use Rattle.grammar.specs.Numbers.{value_of, decimal_text}
use Rattle.grammar.proofs.Conditions.{and_left, and_right, and_both}
use Rattle.grammar.proofs.NumeralLaw.{decimal_writes}
use Rattle.grammar.proofs.RepetitionLaw.{begins_any}
use Rattle.grammar.proofs.Spelling.{spell_then, spell_map, spell_byte, spell_one, spell_exactly}
use Rattle.mupdate_codec.specs.declared.limits.TheConstants.{STRING_LIMIT, NAME_BYTES, LOCATION_LEAST, LOCATION_MOST}
use Rattle.grammar.specs.Quoted.{is_quoted_plain, is_no_quote, literal_text}
use Rattle.text_parts.specs.Locations.{located, short_names, location_text, clamped}
use Rattle.text_parts.specs.Names.{quoted_names, names_of_size}
use Rattle.mupdate_codec.specs.Sizes.{sizes, size}
use Rattle.mupdate_codec.specs.Strings.{mupdate_quoted_char, in_quotes, header, mupdate_string, name}
use Rattle.mupdate_codec.specs.Strings.{location, is_plain_quotable, plain_quoted_text, string_text, string_form, name_form, location_form}
use Rattle.text_parts.proofs.LocationsLaw.{IsPlace, exactly_length, only_located}
use Rattle.text_parts.proofs.NameComplete.{name_is_quoted, name_is_sized, some as name_is_some}
use Rattle.text_parts.proofs.NameSound.{quoted_is_name, sized_is_name}
use Rattle.text_parts.proofs.AnyLaw.{all_any}
use Rattle.mupdate_codec.proofs.StringsLaw.{good_string, good_name, good_location}

-- quotes

in_quotes_value : {A : Type 0} (p : Part A) (bytes : List ℕ) (v : A) → (in_quotes p).lang bytes v → (s : List ℕ) × p.lang s v
in_quotes_value p bytes v j = let k = j.goes_on in (k.front, subst (p.lang k.front) (sym k.goes_on.goes_on.1) k.begins)

spell_quotes : {A : Type 0} (p : Part A) (s : List ℕ) (v : A) → p.lang s v → (in_quotes p).lang (34 ∷ (s ++ 34 ∷ [])) v
spell_quotes p s v l =
    spell_byte 34 (p then λ a. map (λ _. a) (byte 34)) (s ++ 34 ∷ []) v
    (spell_then p (λ a. map (λ _. a) (byte 34)) s (34 ∷ []) v v l (spell_map (λ _. v) (byte 34) (34 ∷ []) 34 (spell_one 34)))

-- headers

pub header_bounds : (least most : ℕ) (bytes : List ℕ) (n : ℕ) → (header least most).lang bytes n → (least ≤ n) × (n ≤ most)
header_bounds least most bytes n j =
    let k = j.goes_on in
    let digits = k.begins in
    let whole = digits.begins.1 in
    let value : k.between ≡ value_of digits.between = digits.goes_on.1 in
    let same : n ≡ k.between = k.goes_on.goes_on.goes_on.goes_on.goes_on.1 in
    let low : least ≤ value_of digits.between = leb-true _ _ (and_right (some digits.between) _ (and_right ((sizes least most).begins digits.between) _ whole)) in
    let high : value_of digits.between ≤ most = leb-true _ _ (and_right (list_all is_digit digits.between) _ (and_left _ _ whole)) in
    (omega (arith, low, value, same), omega (arith, high, value, same))

spell_plus : (optional 43).lang (43 ∷ []) true
unfolding optional
spell_plus = inl (spell_map (λ _. true) (byte 43) (43 ∷ []) 43 (spell_one 43))

abbrev header_text : ℕ → List ℕ
header_text n = 123 ∷ (decimal_text n ++ (43 ∷ 125 ∷ 13 ∷ 10 ∷ []))

spell_header : (least most n : ℕ) → least ≤ n → n ≤ most → (header least most).lang (header_text n) n
spell_header least most n low high =
    let digits = decimal_text n in
    let d = decimal_writes n in
    let whole : (sizes least most).whole digits ≡ true =
    and_both _ _ (and_both _ _ d.digits (le-leb _ _ (subst (λ v. v ≤ most) (sym d.value) high)))
    (and_both _ _ d.there (le-leb _ _ (subst (λ v. least ≤ v) (sym d.value) low))) in
    let sized : (size least most).lang digits n =
    subst (λ v. (size least most).lang digits v) d.value (spell_map value_of (word (sizes least most)) digits digits (refl, whole)) in
    let line : ℕ → Part ℕ = λ n. byte 13 then λ _. map (λ _. n) (byte 10) in
    let rest : ℕ → Part ℕ = λ n. optional 43 then λ _. byte 125 then λ _. line n in
    spell_byte 123 (size least most then rest) (digits ++ (43 ∷ 125 ∷ 13 ∷ 10 ∷ [])) n
    (spell_then (size least most) rest digits (43 ∷ 125 ∷ 13 ∷ 10 ∷ []) n n sized
    (spell_then (optional 43) (λ _. byte 125 then λ _. line n) (43 ∷ []) (125 ∷ 13 ∷ 10 ∷ []) true n spell_plus
    (spell_byte 125 (line n) (13 ∷ 10 ∷ []) n
    (spell_byte 13 (map (λ _. n) (byte 10)) (10 ∷ []) n (spell_map (λ _. n) (byte 10) (10 ∷ []) 10 (spell_one 10))))))

-- a literal of a text
pub spell_literal : {A : Type 0} (least most : ℕ) (f : ℕ → Part A) (text : List ℕ) (v : A) → least ≤ length text → length text ≤ most
    → (f (length text)).lang text v → (header least most then f).lang (literal_text text) v
unfolding literal_text
spell_literal least most f text v low high l =
    let n = length text in
    subst (λ s. (header least most then f).lang s v) (ap (λ s. 123 ∷ s) (append_assoc (decimal_text n) (43 ∷ 125 ∷ 13 ∷ 10 ∷ []) text))
    (spell_then (header least most) f (header_text n) text n v (spell_header least most n low high) l)

-- strings

spell_char : (so_far : List ℕ) (c : ℕ) → is_quoted_plain c ≡ true → (mupdate_quoted_char so_far).lang (c ∷ []) (so_far ++ c ∷ [])
unfolding mupdate_quoted_char
spell_char so_far c h =
    inr (spell_map (λ char. so_far ++ char) (exactly is_quoted_plain 1) (c ∷ []) (c ∷ []) (spell_exactly is_quoted_plain (c ∷ []) (and_both _ _ h refl)))

spell_chars : (n : ℕ) (text so_far : List ℕ) → length text ≤ n → list_all is_quoted_plain text ≡ true
    → (turns is_no_quote mupdate_quoted_char n so_far).lang text (so_far ++ text)
unfolding turns
spell_chars zero [] so_far room h = (refl, append-nil so_far)
spell_chars (suc n) [] so_far room h = inr (refl, append-nil so_far)
spell_chars zero (c ∷ text) so_far room h = absurd (omega arith)
spell_chars (suc n) (c ∷ text) so_far room h =
    inl (record {
      front = c ∷ [];
      back = text;
      between = so_far ++ c ∷ [];
      parts = refl;
      begins = spell_char so_far c (and_left _ _ h);
      goes_on = subst (λ last. (turns is_no_quote mupdate_quoted_char n (so_far ++ c ∷ [])).lang text last) (append_assoc so_far (c ∷ []) text)
          (spell_chars n text (so_far ++ c ∷ []) (omega arith) (and_right _ _ h));
    })

char_length : (so_far s v : List ℕ) → (mupdate_quoted_char so_far).lang s v → length v ≡ length so_far + 1
unfolding mupdate_quoted_char
char_length so_far s v (inl j) =
    let k = j.goes_on in
    omega (arith, ap length k.goes_on.1, length-append so_far k.between, (exactly_length _ 1 k.front k.between k.begins).0)
char_length so_far s v (inr k) =
    omega (arith, ap length k.goes_on.1, length-append so_far k.between, (exactly_length _ 1 k.front k.between k.begins).0)

chars_length : (n : ℕ) (so_far s v : List ℕ) → (turns is_no_quote mupdate_quoted_char n so_far).lang s v → length v ≤ length so_far + n
unfolding turns
chars_length zero so_far s v l = omega (arith, ap length l.1)
chars_length (suc n) so_far s v (inl j) =
    omega (arith, char_length so_far j.front j.between j.begins, chars_length n j.between j.back v j.goes_on)
chars_length (suc n) so_far s v (inr l) = omega (arith, ap length l.1)

-- a string is within the limit
pub string_length : (bytes v : List ℕ) → mupdate_string.lang bytes v → length v ≤ 65536
unfolding mupdate_string
string_length bytes v (inl l) =
    let s = in_quotes_value (turns is_no_quote mupdate_quoted_char STRING_LIMIT []) bytes v l in
    omega (arith, chars_length STRING_LIMIT [] s.0 v s.1)
string_length bytes v (inr j) =
    let n = header_bounds 0 STRING_LIMIT j.front j.between j.begins in
    omega (arith, n.1, (exactly_length any j.between j.back v j.goes_on).0)

pub spell_string : (v : List ℕ) → length v ≤ 65536 → mupdate_string.lang (string_text v) v
unfolding mupdate_string string_text is_plain_quotable
spell_string v room = by_form (is_plain_quotable v) refl
  where
    by_form : (quotable : Bool) → is_plain_quotable v ≡ quotable → mupdate_string.lang (cond quotable (plain_quoted_text v) (literal_text v)) v
    by_form true q =
        inl (spell_quotes (turns is_no_quote mupdate_quoted_char STRING_LIMIT []) v v (spell_chars STRING_LIMIT v [] room (and_right (nat_le (length v) 1024) _ q)))
    by_form false q =
        inr (spell_literal 0 STRING_LIMIT (λ n. exactly any n) v v (omega arith) room (spell_exactly any v (all_any v)))

-- names

pub only_name : (bytes v : List ℕ) → name.lang bytes v → mail_name_fault v ≡ None
unfolding name
only_name bytes v (inl l) = let s = in_quotes_value (word quoted_names) bytes v l in quoted_is_name v s.1.1
only_name bytes v (inr j) =
    sized_is_name j.between v (header_bounds 1 NAME_BYTES j.front j.between j.begins).1 j.goes_on.1

-- a byte that stands in quotes for itself has 7 bits
below : (b : ℕ) → is_quoted_plain b ≡ true → nat_lt b 128 ≡ true
unfolding is_quoted_plain
below b h = grind (arith, nat_tests)

plain_below : (s : List ℕ) → list_all is_quoted_plain s ≡ true → list_all (λ b. nat_lt b 128) s ≡ true
plain_below [] h = refl
plain_below (b ∷ s) h = and_both _ _ (below b (and_left _ _ h)) (plain_below s (and_right (is_quoted_plain b) _ h))

pub spell_name : (v : List ℕ) → mail_name_fault v ≡ None → name.lang (string_text v) v
unfolding name string_text is_plain_quotable
spell_name v n = by_form (is_plain_quotable v) refl
  where
    by_form : (quotable : Bool) → is_plain_quotable v ≡ quotable → name.lang (cond quotable (plain_quoted_text v) (literal_text v)) v
    by_form true q = inl (spell_quotes (word quoted_names) v v (refl, name_is_quoted v n (plain_below v (and_right (nat_le (length v) 1024) _ q))))
    by_form false q =
        inr (spell_literal 1 NAME_BYTES (λ n. word (names_of_size n)) v v (name_is_some v n) (name_fits v n) (refl, name_is_sized v n))

-- locations

pub only_location : (bytes : List ℕ) (it : Location) → location.lang bytes it → IsPlace it
unfolding location
only_location bytes it (inl l) =
    let rest : List ℕ → Part Location = λ server. byte 33 then λ _. map (located server) (word short_names) in
    let s = in_quotes_value (word short_names then rest) bytes it l in
    let j = s.1 in
    let k = j.goes_on.goes_on in
    subst IsPlace (sym k.goes_on.1) (record { server = j.begins.1; partition = k.begins.1 })
only_location bytes it (inr j) =
    let bounds = header_bounds LOCATION_LEAST LOCATION_MOST j.front j.between j.begins in
    let n : ℕ = clamped LOCATION_LEAST LOCATION_MOST j.between in
    let least : 3 ≤ n = omega arith in
    let most : n ≤ 129 = omega arith in
    only_located n least most j.back it j.goes_on

pub spell_location : (it : Location) → IsPlace it → location.lang (plain_quoted_text (location_text it)) it
unfolding location
spell_location it p =
    let rest : List ℕ → Part Location = λ server. byte 33 then λ _. map (located server) (word short_names) in
    inl (spell_quotes (word short_names then rest) (location_text it) it
    (spell_then (word short_names) rest it.server (33 ∷ it.partition) it.server it (refl, p.server)
    (spell_byte 33 (map (located it.server) (word short_names)) it.partition it
    (spell_map (located it.server) (word short_names) it.partition it.partition (refl, p.partition)))))

-- the laws of the arguments

pub law_string : Law any any string_form
law_string = record { good = λ V. good_string any; begins = begins_any any mupdate_string; prints = λ bytes v l. spell_string v (string_length bytes v l) }

pub law_name : Law any any name_form
law_name = record { good = λ V. good_name any; begins = begins_any any name; prints = λ bytes v l. spell_name v (only_name bytes v l) }

pub law_location : Law any any location_form
law_location = record { good = λ V. good_location any; begins = begins_any any location; prints = λ bytes it l. spell_location it (only_location bytes it l) }
