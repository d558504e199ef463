-- A printed string is a spelling of it.
use Rattle.std.proofs.Common.{◌≡◌, ℕ, ◌+◌, ◌<◌, List, [], ◌∷◌, ◌++◌, length, Bool, true, false, cond, ◌||◌, inl, inr, nat_le, refl, sym, ap, ◌∙◌, subst}
use Rattle.std.proofs.Common.{append-nil, append_assoc, drop, drop-cons, add-one, get_or}
use Rattle.std.specs.List.{list_all}
use Rattle.mur_base.specs.Number.{is_digit}
use Rattle.grammar.specs.Quoted.{is_quoted_plain, is_quoted_special, is_no_quote, literal_text}
use Rattle.grammar.specs.Part.{◌then◌, map, byte, exactly, optional, turns, repeat}
use Rattle.grammar.specs.Words.{word}
use Rattle.grammar.specs.Runs.{run_of}
use Rattle.grammar.specs.Numbers.{value_of, decimal_text}
use Rattle.grammar.proofs.Conditions.{and_left, and_right, and_both}
use Rattle.imap_text.specs.Characters.{is_text_char, is_char8}
use Rattle.imap_text.specs.Strings.{crlf_part, quoted_char, quoted, literal, string, astring, IsString, escaped, escaped_text, quoted_text}
use Rattle.imap_text.specs.Strings.{is_astring_atom, is_quotable, astring_text}
use Rattle.imap_text.proofs.StringsLaw.{octets, behind_length}
use Rattle.imap_text.proofs.StringsHold.{only_astring, only_literal}
use Rattle.grammar.proofs.NumeralLaw.{decimal_writes}
use Rattle.grammar.proofs.Spelling.{spell_then, spell_map, spell_byte, spell_one, spell_exactly}

pub spell_crlf : crlf_part.lang (13 ∷ 10 ∷ []) 10
unfolding crlf_part
spell_crlf = spell_byte 13 (byte 10) (10 ∷ []) 10 (spell_one 10)

spell_plus : (optional 43).lang (43 ∷ []) true
unfolding optional
spell_plus = inl (spell_map (λ _. true) (byte 43) (43 ∷ []) 43 (spell_one 43))

spell_literal : (text : List ℕ) → IsString text → literal.lang (literal_text text) text
unfolding literal literal_text
spell_literal text octets_only =
    let digits = decimal_text (length text) in
    let d = decimal_writes (length text) in
    spell_byte 123 (word (run_of is_digit) then behind_length) (digits ++ (43 ∷ 125 ∷ 13 ∷ 10 ∷ text)) text
    (spell_then (word (run_of is_digit)) behind_length digits (43 ∷ 125 ∷ 13 ∷ 10 ∷ text) digits text (refl, and_both _ _ d.digits d.there)
    (spell_then (optional 43) (λ _. byte 125 then λ _. octets (value_of digits)) (43 ∷ []) (125 ∷ 13 ∷ 10 ∷ text) true text spell_plus
    (spell_byte 125 (octets (value_of digits)) (13 ∷ 10 ∷ text) text
    (spell_then crlf_part (λ _. exactly is_char8 (value_of digits)) (13 ∷ 10 ∷ []) text 10 text spell_crlf
    (subst (λ n. (exactly is_char8 n).lang text text) (sym d.value) (spell_exactly is_char8 text octets_only))))))

or_false : (a : Bool) → a || false ≡ true → a ≡ true
or_false true h = refl
or_false false h = h

spell_char_by : (so_far : List ℕ) (c : ℕ) (special : Bool) → is_quoted_special c ≡ special → is_quoted_plain c || special ≡ true →
    (quoted_char so_far).lang (cond special (92 ∷ c ∷ []) (c ∷ [])) (so_far ++ c ∷ [])
unfolding quoted_char
spell_char_by so_far c true e h =
    inl (spell_byte 92 (map (λ char. so_far ++ char) (exactly is_quoted_special 1)) (c ∷ []) (so_far ++ c ∷ [])
    (spell_map (λ char. so_far ++ char) (exactly is_quoted_special 1) (c ∷ []) (c ∷ []) (spell_exactly is_quoted_special (c ∷ []) (and_both _ _ e refl))))
spell_char_by so_far c false e h =
    inr (inl (spell_map (λ char. so_far ++ char) (exactly is_quoted_plain 1) (c ∷ []) (c ∷ [])
    (spell_exactly is_quoted_plain (c ∷ []) (and_both _ _ (or_false _ h) refl))))

spell_char : (so_far : List ℕ) (c : ℕ) → is_text_char c ≡ true → (quoted_char so_far).lang (escaped c) (so_far ++ c ∷ [])
unfolding is_text_char escaped
spell_char so_far c h = spell_char_by so_far c (is_quoted_special c) refl h

spell_chars : (text so_far : List ℕ) → list_all is_text_char text ≡ true → (turns is_no_quote quoted_char (length text) so_far).lang (escaped_text text)
    (so_far ++ text)
unfolding turns escaped_text
spell_chars [] so_far h = (refl, append-nil so_far)
spell_chars (c ∷ text) so_far h =
    inl (record {
      front = escaped c;
      back = escaped_text text;
      between = so_far ++ c ∷ [];
      parts = refl;
      begins = spell_char so_far c (and_left _ _ h);
      goes_on = subst (λ last. (turns is_no_quote quoted_char (length text) (so_far ++ c ∷ [])).lang (escaped_text text) last)
          (append_assoc so_far (c ∷ []) text) (spell_chars text (so_far ++ c ∷ []) (and_right _ _ h));
    })

pub spell_quoted : (text : List ℕ) → list_all is_text_char text ≡ true → quoted.lang (quoted_text text) text
unfolding quoted quoted_text repeat
spell_quoted text h =
    spell_byte 34 (repeat is_no_quote quoted_char [] then λ text. map (λ _. text) (byte 34)) (escaped_text text ++ 34 ∷ []) text
    (spell_then (repeat is_no_quote quoted_char []) (λ text. map (λ _. text) (byte 34)) (escaped_text text) (34 ∷ []) text text
    (length text, spell_chars text [] h) (spell_map (λ _. text) (byte 34) (34 ∷ []) 34 (spell_one 34)))

-- a string as it is printed
pub spell_astring : (text : List ℕ) → IsString text → astring.lang (astring_text text) text
unfolding astring string astring_text is_astring_atom is_quotable
spell_astring text octets_only = by_form (is_astring_atom text) (is_quotable text) refl refl
  where
    by_form : (atom quotable : Bool) → is_astring_atom text ≡ atom → is_quotable text ≡ quotable
        → astring.lang (cond atom text (cond quotable (quoted_text text) (literal_text text))) text
    by_form true quotable a q = inl (refl, a)
    by_form false true a q = inr (inl (spell_quoted text (and_right (nat_le (length text) 1024) _ q)))
    by_form false false a q = inr (inr (spell_literal text octets_only))

pub prints_argument : (bytes text : List ℕ) → astring.lang bytes text → astring.lang (astring_text text) text
prints_argument bytes text l = spell_astring text (only_astring bytes text l)

pub prints_message : (bytes text : List ℕ) → literal.lang bytes text → literal.lang (literal_text text) text
prints_message bytes text l = spell_literal text (only_literal bytes text l)

-- one character more
pub escaped_step : (text : List ℕ) (i : ℕ) → i < length text → escaped_text (drop i text) ≡ escaped (get_or text i 0) ++ escaped_text (drop (i + 1) text)
unfolding escaped_text
escaped_step text i h = ap escaped_text (drop-cons text i 0 h) ∙ ap (λ n. escaped (get_or text i 0) ++ escaped_text (drop n text)) (sym (add-one i))
