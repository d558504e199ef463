-- LIST: the law of its arguments.
use Rattle.std.proofs.Common.{◌≡◌, ℕ, List, [], ◌∷◌, Bool, true, false, ◌||◌, not, ◌==◌, inl, inr, ⊎_elim, refl, ap, eqb-true}
use Rattle.std.specs.List.{list_all}
use Rattle.grammar.specs.Exact.{any}
use Rattle.grammar.specs.Forms.{Law}
use Rattle.grammar.specs.Runs.{run_of}
use Rattle.grammar.specs.Words.{word}
use Rattle.grammar.proofs.ChoiceLaw.{good_choose}
use Rattle.grammar.proofs.Conditions.{and_both, and_left, and_right, or_left, not_true, among_all}
use Rattle.grammar.proofs.FormLaw.{law_spaced}
use Rattle.grammar.proofs.RepetitionLaw.{begins_any}
use Rattle.grammar.proofs.RunLaw.{lawful_run, apart_run}
use Rattle.grammar.proofs.StartLaw.{starts_word, without_from}
use Rattle.grammar.proofs.WordLaw.{good_word}
use Rattle.imap_text.specs.Characters.{is_astring_char, is_char8}
use Rattle.imap_command.specs.List.{is_list_char, list_mailbox, pattern, list}
use Rattle.imap_text.specs.Strings.{astring, string, argument, IsString, astring_text}
use Rattle.imap_command.proofs.ArgumentsLaw.{ends_atom, ends_line, law_argument, arguments_behind}
use Rattle.imap_text.proofs.StringsHold.{HasNoNul, all_char8, atom_char8, only_string}
use Rattle.imap_text.proofs.StringsLaw.{string_starts, starts_string, good_string}
use Rattle.imap_text.proofs.StringsPrinted.{spell_astring}

list_char8 : HasNoNul is_list_char
unfolding is_list_char is_char8
list_char8 c h = by_case (is_astring_char c) refl h
  where
    by_wild : (b : Bool) → (c == 37) ≡ b → b || c == 42 ≡ true → not (c == 0) ≡ true
    by_wild true e h = ap (λ d. not (d == 0)) (eqb-true c 37 e)
    by_wild false e h = ap (λ d. not (d == 0)) (eqb-true c 42 h)

    by_case : (b : Bool) → is_astring_char c ≡ b → b || (c == 37 || c == 42) ≡ true → not (c == 0) ≡ true
    by_case true e h = atom_char8 c e
    by_case false e h = by_wild (c == 37) refl h

list_ends : (c : ℕ) → ends_line c ≡ true → is_list_char c ≡ false
unfolding is_list_char is_astring_char
list_ends c h = ap is_list_char (eqb-true c 13 h)

no_list_char : (c : ℕ) → string_starts c ≡ true → is_list_char c ≡ false
unfolding is_list_char is_astring_char
no_list_char c h = not_true (is_list_char c) (among_all (λ c. not (is_list_char c)) (34 ∷ 123 ∷ []) refl c h)

-- an atom of astrings is one of patterns
all_list_chars : (text : List ℕ) → list_all is_astring_char text ≡ true → list_all is_list_char text ≡ true
unfolding is_list_char
all_list_chars [] h = refl
all_list_chars (c ∷ text) h =
    and_both (is_list_char c) (list_all is_list_char text)
    (or_left (is_astring_char c) (c == 37 || c == 42) (and_left (is_astring_char c) _ h))
    (all_list_chars text (and_right (is_astring_char c) _ h))

only_pattern : (bytes text : List ℕ) → list_mailbox.lang bytes text → IsString text
unfolding list_mailbox
only_pattern bytes text l = ⊎_elim (λ l. all_char8 is_list_char list_char8 text (and_left _ _ l.1)) (only_string bytes text) l

prints_pattern : (bytes text : List ℕ) → list_mailbox.lang bytes text → list_mailbox.lang (astring_text text) text
unfolding list_mailbox astring
prints_pattern bytes text l =
    ⊎_elim (λ w. inl (w.0, and_both _ _ (all_list_chars text (and_left _ _ w.1)) (and_right (list_all is_astring_char text) _ w.1))) (λ s. inr s)
    (spell_astring text (only_pattern bytes text l))

law_pattern : Law any ends_line pattern
unfolding list_mailbox is_list_char is_astring_char
law_pattern = record {
  good = λ V. good_choose is_list_char (word (run_of is_list_char)) string
      (good_word (run_of is_list_char) (lawful_run is_list_char 97 refl) ends_line (apart_run is_list_char ends_line list_ends)) (good_string ends_line)
      (starts_word (run_of is_list_char) is_list_char (lawful_run is_list_char 97 refl) refl (λ c h. and_left (is_list_char c) true h))
      (without_from is_list_char ends_line string no_list_char starts_string);
  begins = begins_any ends_line list_mailbox;
  prints = prints_pattern;
}

pub law_list : Law ends_atom ends_line list
law_list = arguments_behind _ refl (law_spaced argument pattern refl law_argument law_pattern)
