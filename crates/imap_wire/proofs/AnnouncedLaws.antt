-- What a text announces at its end.
use Rattle.std.proofs.Common.{◌≡◌, ◌≢◌, ℕ, ◌+◌, ◌-◌, ◌<◌, ◌≤◌, Bool, true, false, ◌&&◌, nat_lt, nat_eq, if◌then◌else◌, List, [], ◌∷◌, ◌++◌}
use Rattle.std.proofs.Common.{codes, length, take, drop, reverse, get_or, Option, None, Some, ◌⊎◌, inl, inr, refl, sym, ap, subst, ◌∙◌, arith, append_assoc, length-append}
use Rattle.std.specs.Cmp.Lexicographic.{pointwise, same_text}
use Rattle.std.specs.Char.{is_ascii_digit}
use Rattle.std.specs.List.{AllByRecursion, ends_with}
use Rattle.std.specs.Str.Parse.{digits_value}
use Rattle.std.proofs.Math.Seq.{take-append_seam, drop-append_seam, get_or-append_seam, get_or-append_right}
use Rattle.std.proofs.lemmas.List.{get_or-drop, get_or-reverse, length-drop, take-append-drop}
use Rattle.std.proofs.lemmas.List.Elements.{All-from_recursion, recursion_from_All}
use Rattle.std.proofs.lemmas.List.Sums.{suffix_len_is, suffix_len-le-length, prefix_len_passes}
use Rattle.std.proofs.lemmas.Bool.Decides.{nat_tests}
use Rattle.imap_wire.specs.declared.literal.Literal.{Literal}
use Rattle.imap_wire.specs.FrameLaws.{IsNumber, AnnouncesNone, announcement}
use Rattle.imap_wire.specs.Front.{IsPlain, IsPlainByte}
use Rattle.imap_wire.specs.Literal.{IsDigit, last_digits, sized, announced}
use Rattle.imap_wire.proofs.LiteralLaws.{digit_value-digit}

-- two parts, where the second is counted from the end
take_part : (front back : List ℕ) (n : ℕ) → length back ≡ n → take (length (front ++ back) - n) (front ++ back) ≡ front
take_part front back n is =
    let at : length (front ++ back) - n ≡ length front = omega (arith, length-append front back) in
    ap (λ k. take k (front ++ back)) at ∙ take-append_seam front back

drop_part : (front back : List ℕ) (n : ℕ) → length back ≡ n → drop (length (front ++ back) - n) (front ++ back) ≡ back
drop_part front back n is =
    let at : length (front ++ back) - n ≡ length front = omega (arith, length-append front back) in
    ap (λ k. drop k (front ++ back)) at ∙ drop-append_seam front back

ends_by : (front back needle : List ℕ) → length back ≡ length needle → ends_with nat_eq (front ++ back) needle ≡ pointwise nat_eq needle back
ends_by front back needle same = ap (pointwise nat_eq needle) (drop_part front back (length needle) same)

-- the digits behind a brace are all that stand at the end
brace_count : (front digits : List ℕ) → AllByRecursion IsDigit digits → last_digits (front ++ 123 ∷ digits) ≡ length digits
brace_count front digits each =
    let before = front ++ 123 ∷ [] in
    let bytes = front ++ 123 ∷ digits in
    let size : length bytes ≡ length front + 1 + length digits = omega (arith, length-append front (123 ∷ digits)) in
    let part : length before ≡ length front + 1 = omega (arith, length-append front (123 ∷ [])) in
    let split : bytes ≡ before ++ digits = sym (append_assoc front (123 ∷ []) digits) in
    let at : length front + 1 - 1 ≡ length front = omega arith in
    let brace : get_or bytes (length front + 1 - 1) 0 ≡ 123 = ap (λ k. get_or bytes k 0) at ∙ get_or-append_seam front 123 digits 0 in
    let count : last_digits bytes ≡ length bytes - (length front + 1) =
    suffix_len_is is_ascii_digit bytes (length front + 1) 0 (omega arith)
    (λ k from within.
    let here : get_or bytes k 0 ≡ get_or digits (k - length before) 0 =
    ap (λ b. get_or b k 0) split ∙ get_or-append_right before digits k 0 (omega arith) in
    subst (λ byte. is_ascii_digit byte ≡ true) (sym here) (All-from_recursion IsDigit digits each (k - length before) 0 (omega arith)))
    (λ _. ap is_ascii_digit brace) in
    omega arith

abbrev literal_if : Bool → Bool → List ℕ → Option Literal
literal_if test waits digits = if test then Some (record { size = digits_value 10 digits; waits = waits }) else None

abbrev sized_from : Bool → ℕ → List ℕ → List ℕ → Option Literal
sized_from waits digits before behind =
    literal_if (nat_lt 0 digits && ends_with nat_eq before (codes "{")) waits behind

sized_parts : (waits : Bool) (bytes : List ℕ)
    → sized waits bytes ≡ sized_from waits (last_digits bytes) (take (length bytes - last_digits bytes) bytes) (drop (length bytes - last_digits bytes) bytes)
unfolding sized
sized_parts waits bytes = refl

sized_number : (waits : Bool) (front digits : List ℕ) → IsNumber digits
    → sized waits (front ++ 123 ∷ digits) ≡ Some (record { size = digits_value 10 digits; waits = waits })
sized_number waits front digits number =
    let before = front ++ 123 ∷ [] in
    let bytes = front ++ 123 ∷ digits in
    let all : before ++ digits ≡ bytes = append_assoc front (123 ∷ []) digits in
    let some : nat_lt 0 (length digits) ≡ true = (let many = number.0 in grind (arith, nat_tests)) in
    sized_parts waits bytes
    ∙ ap (λ n. sized_from waits n (take (length bytes - n) bytes) (drop (length bytes - n) bytes)) (brace_count front digits number.1)
    ∙ ap (λ b. sized_from waits (length digits) (take (length b - length digits) b) (drop (length b - length digits) b)) (sym all)
    ∙ ap (λ b. sized_from waits (length digits) b (drop (length (before ++ digits) - length digits) (before ++ digits)))
    (take_part before digits (length digits) refl)
    ∙ ap (sized_from waits (length digits) before) (drop_part before digits (length digits) refl)
    ∙ ap (λ test. literal_if (test && ends_with nat_eq before (codes "{")) waits digits) some
    ∙ ap (λ test. literal_if test waits digits) (ends_by front (123 ∷ []) (codes "{") refl)

abbrev picked : Bool → Bool → Option Literal → Option Literal → Option Literal
picked one other unasked asked = if one then unasked else (if other then asked else None)

announced_parts : (text : List ℕ)
    → announced text ≡ picked (ends_with nat_eq text (codes "+}")) (ends_with nat_eq text (codes "}")) (sized false (take (length text - 2) text))
    (sized true (take (length text - 1) text))
unfolding announced
announced_parts text = refl

-- the last digit
last_digit : (digits : List ℕ) → 0 < length digits → AllByRecursion IsDigit digits
    → (before : List ℕ) × (digit : ℕ) × IsDigit digit × (digits ≡ before ++ digit ∷ [])
last_digit [] some each = absurd (omega arith)
last_digit (x ∷ []) some each = ([], x, each.0, refl)
last_digit (x ∷ y ∷ digits) some each =
    let rest = last_digit (y ∷ digits) (omega arith) each.1 in
    (x ∷ rest.0, rest.1, rest.2, ap (λ l. x ∷ l) rest.3)

no_plus : (front digits : List ℕ) → IsNumber digits → ends_with nat_eq (front ++ 123 ∷ digits ++ 125 ∷ []) (codes "+}") ≡ false
no_plus front digits number =
    let last = last_digit digits number.0 number.1 in
    let before = front ++ 123 ∷ last.0 in
    let whole : front ++ 123 ∷ digits ++ 125 ∷ [] ≡ before ++ last.1 ∷ 125 ∷ [] =
    ap (λ l. front ++ 123 ∷ l ++ 125 ∷ []) last.3 ∙ ap (λ l. l ++ 125 ∷ []) (sym (append_assoc front (123 ∷ last.0) (last.1 ∷ [])))
    ∙ append_assoc before (last.1 ∷ []) (125 ∷ []) in
    let large : 48 ≤ last.1 = (digit_value-digit last.1 last.2).1 in
    let other : nat_eq 43 last.1 ≡ false = grind (arith, nat_tests) in
    ap (λ text. ends_with nat_eq text (codes "+}")) whole ∙ ends_by before (last.1 ∷ 125 ∷ []) (codes "+}") refl ∙ (rw other refl)

pub announced_number : (front digits : List ℕ) (waits : Bool) → IsNumber digits
    → announced (front ++ announcement digits waits) ≡ Some (record { size = digits_value 10 digits; waits = waits })
announced_number front digits true number =
    let bytes = front ++ 123 ∷ digits in
    let text = bytes ++ 125 ∷ [] in
    ap announced (sym (append_assoc front (123 ∷ digits) (125 ∷ []))) ∙ announced_parts text
    ∙ ap (λ test. picked test (ends_with nat_eq text (codes "}")) (sized false (take (length text - 2) text)) (sized true (take (length text - 1) text)))
    (no_plus front digits number)
    ∙ ap (λ test. picked false test (sized false (take (length text - 2) text)) (sized true (take (length text - 1) text)))
    (ends_by bytes (125 ∷ []) (codes "}") refl)
    ∙ ap (sized true) (take_part bytes (125 ∷ []) 1 refl)
    ∙ sized_number true front digits number
announced_number front digits false number =
    let bytes = front ++ 123 ∷ digits in
    let text = bytes ++ 43 ∷ 125 ∷ [] in
    ap announced (sym (append_assoc front (123 ∷ digits) (43 ∷ 125 ∷ []))) ∙ announced_parts text
    ∙ ap (λ test. picked test (ends_with nat_eq text (codes "}")) (sized false (take (length text - 2) text)) (sized true (take (length text - 1) text)))
    (ends_by bytes (43 ∷ 125 ∷ []) (codes "+}") refl)
    ∙ ap (sized false) (take_part bytes (43 ∷ 125 ∷ []) 2 refl)
    ∙ sized_number false front digits number

-- a text that ends so
ends_parts : (text needle : List ℕ) → ends_with nat_eq text needle ≡ true → text ≡ take (length text - length needle) text ++ needle
ends_parts text needle is =
    let at = length text - length needle in
    sym (take-append-drop at text) ∙ ap (λ l. take at text ++ l) (sym (same_text needle (drop at text) (sym is)))

digits_behind : (bytes : List ℕ) → AllByRecursion IsDigit (drop (length bytes - last_digits bytes) bytes)
digits_behind bytes =
    let many = last_digits bytes in
    let at = length bytes - many in
    let within : many ≤ length bytes = suffix_len-le-length is_ascii_digit bytes in
    recursion_from_All IsDigit (drop at bytes)
    (λ k d inside.
    let size : length (drop at bytes) ≡ length bytes - at = length-drop at bytes in
    let from_end = length bytes - 1 - (at + k) in
    let place : length bytes - 1 - from_end ≡ at + k = omega arith in
    let same : get_or (reverse bytes) from_end d ≡ get_or (drop at bytes) k d =
    get_or-reverse bytes from_end d (omega arith) ∙ ap (λ i. get_or bytes i d) place ∙ sym (get_or-drop at bytes k d) in
    subst (λ byte. is_ascii_digit byte ≡ true) same (prefix_len_passes is_ascii_digit (reverse bytes) from_end d (omega arith)))

sized_none : (waits : Bool) (bytes : List ℕ) → ((front digits : List ℕ) → IsNumber digits → bytes ≢ front ++ 123 ∷ digits) → sized waits bytes ≡ None
sized_none waits bytes none = sized_parts waits bytes ∙ by (nat_lt 0 many) (ends_with nat_eq before (codes "{")) refl refl
  where
    many : ℕ
    many = last_digits bytes

    at : ℕ
    at = length bytes - many

    before : List ℕ
    before = take at bytes

    by : (some brace : Bool) → nat_lt 0 many ≡ some → ends_with nat_eq before (codes "{") ≡ brace
        → literal_if (some && brace) waits (drop at bytes) ≡ None
    by false brace some is = refl
    by true false some is = refl
    by true true some is =
        let all : bytes ≡ take (length before - 1) before ++ 123 ∷ drop at bytes =
        sym (take-append-drop at bytes) ∙ ap (λ b. b ++ drop at bytes) (ends_parts before (codes "{") is)
        ∙ append_assoc (take (length before - 1) before) (123 ∷ []) (drop at bytes) in
        let size : length (drop at bytes) ≡ length bytes - at = length-drop at bytes in
        let within : many ≤ length bytes = suffix_len-le-length is_ascii_digit bytes in
        let one : 0 < many = grind (arith, nat_tests) in
        absurd (none (take (length before - 1) before) (drop at bytes) (omega arith, digits_behind bytes) all)

pub announced_none : (text : List ℕ) → AnnouncesNone text → announced text ≡ None
announced_none text none = announced_parts text ∙ by (ends_with nat_eq text (codes "+}")) (ends_with nat_eq text (codes "}")) refl refl
  where
    by : (one other : Bool) → ends_with nat_eq text (codes "+}") ≡ one → ends_with nat_eq text (codes "}") ≡ other
        → picked one other (sized false (take (length text - 2) text)) (sized true (take (length text - 1) text)) ≡ None
    by true other is _ =
        sized_none false (take (length text - 2) text)
        (λ front digits number same.
        none front digits false number
        (ends_parts text (codes "+}") is ∙ ap (λ b. b ++ 43 ∷ 125 ∷ []) same ∙ append_assoc front (123 ∷ digits) (43 ∷ 125 ∷ [])))
    by false true _ is =
        sized_none true (take (length text - 1) text)
        (λ front digits number same.
        none front digits true number
        (ends_parts text (codes "}") is ∙ ap (λ b. b ++ 125 ∷ []) same ∙ append_assoc front (123 ∷ digits) (125 ∷ [])))
    by false false _ _ = refl

-- what stands at the end, if something does
sized_found : (waits : Bool) (bytes : List ℕ)
    → (sized waits bytes ≡ None) ⊎ ((front : List ℕ) × (digits : List ℕ) × IsNumber digits × (bytes ≡ front ++ 123 ∷ digits))
sized_found waits bytes = by (nat_lt 0 many) (ends_with nat_eq before (codes "{")) refl refl
  where
    many : ℕ
    many = last_digits bytes

    at : ℕ
    at = length bytes - many

    before : List ℕ
    before = take at bytes

    by : (some brace : Bool) → nat_lt 0 many ≡ some → ends_with nat_eq before (codes "{") ≡ brace
        → (sized waits bytes ≡ None) ⊎ ((front : List ℕ) × (digits : List ℕ) × IsNumber digits × (bytes ≡ front ++ 123 ∷ digits))
    by false brace some is = inl (sized_parts waits bytes ∙ ap (λ t. literal_if (t && ends_with nat_eq before (codes "{")) waits (drop at bytes)) some)
    by true false some is =
        inl (
        sized_parts waits bytes ∙ ap (λ t. literal_if (t && ends_with nat_eq before (codes "{")) waits (drop at bytes)) some
        ∙ ap (λ t. literal_if t waits (drop at bytes)) is
        )
    by true true some is =
        let all : bytes ≡ take (length before - 1) before ++ 123 ∷ drop at bytes =
        sym (take-append-drop at bytes) ∙ ap (λ b. b ++ drop at bytes) (ends_parts before (codes "{") is)
        ∙ append_assoc (take (length before - 1) before) (123 ∷ []) (drop at bytes) in
        let size : length (drop at bytes) ≡ length bytes - at = length-drop at bytes in
        let within : many ≤ length bytes = suffix_len-le-length is_ascii_digit bytes in
        let one : 0 < many = grind (arith, nat_tests) in
        inr (take (length before - 1) before, drop at bytes, (omega arith, digits_behind bytes), all)

-- the text ends in an announcement
abbrev pub Announces : List ℕ → Type 0
Announces text = (front : List ℕ) × (digits : List ℕ) × (waits : Bool) × IsNumber digits × (text ≡ front ++ announcement digits waits)

announced_found : (text : List ℕ) → (announced text ≡ None) ⊎ Announces text
announced_found text = by (ends_with nat_eq text (codes "+}")) (ends_with nat_eq text (codes "}")) refl refl
  where
    by : (one other : Bool) → ends_with nat_eq text (codes "+}") ≡ one → ends_with nat_eq text (codes "}") ≡ other
        → (announced text ≡ None) ⊎ Announces text
    by true other is _ = elim (sized_found false (take (length text - 2) text)) [
      | inl none ↦
          inl (
          announced_parts text
          ∙ ap (λ t. picked t (ends_with nat_eq text (codes "}")) (sized false (take (length text - 2) text)) (sized true (take (length text - 1) text))) is
          ∙ none
          )
      | inr found ↦
          inr (
            found.0,
            found.1,
            false,
            found.2,
            ends_parts text (codes "+}") is ∙ ap (λ b. b ++ 43 ∷ 125 ∷ []) found.3 ∙ append_assoc found.0 (123 ∷ found.1) (43 ∷ 125 ∷ []),
          )
    ]
    by false true not_one is = elim (sized_found true (take (length text - 1) text)) [
      | inl none ↦
          inl (
          announced_parts text
          ∙ ap (λ t. picked t (ends_with nat_eq text (codes "}")) (sized false (take (length text - 2) text)) (sized true (take (length text - 1) text))) not_one
          ∙ ap (λ t. picked false t (sized false (take (length text - 2) text)) (sized true (take (length text - 1) text))) is
          ∙ none
          )
      | inr found ↦
          inr (
            found.0,
            found.1,
            true,
            found.2,
            ends_parts text (codes "}") is ∙ ap (λ b. b ++ 125 ∷ []) found.3 ∙ append_assoc found.0 (123 ∷ found.1) (125 ∷ []),
          )
    ]
    by false false not_one not_other =
        inl (
        announced_parts text
        ∙ ap (λ t. picked t (ends_with nat_eq text (codes "}")) (sized false (take (length text - 2) text)) (sized true (take (length text - 1) text))) not_one
        ∙ ap (λ t. picked false t (sized false (take (length text - 2) text)) (sized true (take (length text - 1) text))) not_other
        )

-- a brace behind plain bytes
brace_behind : (front back before behind : List ℕ) → AllByRecursion IsPlainByte front → front ++ back ≡ before ++ 123 ∷ behind
    → (rest : List ℕ) × (back ≡ rest ++ 123 ∷ behind)
brace_behind [] back before behind plain same = (before, same)
brace_behind (x ∷ front) back [] behind plain same =
    let head : x ≡ 123 = ap (λ l. get_or l 0 0) same in
    absurd (grind (arith, nat_tests))
brace_behind (x ∷ front) back (y ∷ before) behind plain same =
    brace_behind front back before behind plain.1 (ap (λ l. drop 1 l) same)

announcement_behind : (front back before digits : List ℕ) (waits : Bool) → AllByRecursion IsPlainByte front → front ++ back ≡ before ++ announcement digits waits
    → (rest : List ℕ) × (back ≡ rest ++ announcement digits waits)
announcement_behind front back before digits true plain same = brace_behind front back before (digits ++ codes "}") plain same
announcement_behind front back before digits false plain same = brace_behind front back before (digits ++ codes "+}") plain same

-- what stands behind plain bytes says alone what the text announces
pub announced_behind : (front back : List ℕ) → IsPlain front → announced (front ++ back) ≡ announced back
announced_behind front back plain = elim (announced_found back) [
  | inl none ↦
      announced_none (front ++ back)
      (λ before digits waits number same.
      let rest = announcement_behind front back before digits waits (recursion_from_All IsPlainByte front plain) same in
      let some = ap announced rest.1 ∙ announced_number rest.0 digits waits number in
      let both = sym none ∙ some in
      cc)
      ∙ sym none
  | inr found ↦
      ap (λ b. announced (front ++ b)) found.4 ∙ ap announced (sym (append_assoc front found.0 (announcement found.1 found.2)))
      ∙ announced_number (front ++ found.0) found.1 found.2 found.3
      ∙ sym (ap announced found.4 ∙ announced_number found.0 found.1 found.2 found.3)
]
