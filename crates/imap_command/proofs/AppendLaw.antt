-- APPEND: the law of its arguments.
use Rattle.std.proofs.Common.{ℕ, List, ◌∷◌, Bool, ◌||◌, ◌==◌, inl, inr, refl, sym, subst}
use Rattle.std.proofs.Common.{None, Some}
use Rattle.grammar.specs.Exact.{StartsWith, any}
use Rattle.grammar.specs.Forms.{Law, preceded, ◌spaced◌}
use Rattle.grammar.specs.Part.{map, byte}
use Rattle.grammar.proofs.FormLaw.{apart_byte, law_choice, law_made, law_spaced, law_weaker}
use Rattle.grammar.proofs.Spelling.{spell_then, spell_map, spell_byte}
use Rattle.grammar.proofs.StartLaw.{starts_byte, starts_then, begins_from}
use Rattle.mail_message.specs.FlagSets.{Flags, no_flags}
use Rattle.imap_command.specs.Append.{Dated, dated_text, with_date, without_date, dated, flagged_text, without_flags, flagged, append_form}
use Rattle.text_parts.specs.Dates.{date_time}
use Rattle.imap_command.specs.Flags.{flag_list, flag_list_part, flag_list_text}
use Rattle.imap_text.specs.Strings.{literal, message, argument}
use Rattle.imap_command.proofs.ArgumentsLaw.{ends_atom, ends_line, law_argument, law_message, arguments_behind}
use Rattle.text_parts.proofs.DatesLaw.{law_date_time}
use Rattle.imap_command.proofs.FlagsPrinted.{law_flag_list, no_flags_printed}

abbrev is_quote : ℕ → Bool
is_quote c = c == 34

abbrev is_brace : ℕ → Bool
is_brace c = c == 123

abbrev is_paren : ℕ → Bool
is_paren c = c == 40

abbrev is_space : ℕ → Bool
is_space c = c == 32

starts_literal : StartsWith is_brace literal
unfolding literal
starts_literal = starts_then (byte 123) _ (starts_byte 123)

-- a message begins with a brace
law_body : Law is_brace ends_line message
law_body = let g = law_message ends_line in record { good = g.good; begins = begins_from ends_line literal starts_literal; prints = g.prints }

law_with_date : Law is_quote ends_line with_date
unfolding dated_text
law_with_date =
    law_made (λ x. (Some x.0, x.1)) dated_text (date_time spaced message) (λ x. refl)
    (law_spaced date_time message refl (law_date_time is_space) law_body)

law_without_date : Law is_brace ends_line without_date
unfolding dated_text
law_without_date = law_made (λ body. (None, body)) dated_text message (λ body. refl) law_body

starts_with_date : StartsWith is_quote with_date.part
starts_with_date = starts_then (date_time spaced message).part _ (starts_then date_time.part _ (starts_then (byte 34) _ (starts_byte 34)))

-- a message, before which a date may stand, begins with a quote or a brace
abbrev starts_dated : ℕ → Bool
starts_dated c = is_quote c || is_brace c

law_dated : Law starts_dated ends_line dated
law_dated =
    law_choice is_quote dated_text with_date without_date starts_with_date (apart_byte 34 is_brace refl) law_with_date law_without_date
    (λ bytes x l. inl (law_with_date.prints bytes x l)) (λ bytes x l. inr (law_without_date.prints bytes x l))

law_listed : Law any ends_line (flag_list spaced dated)
law_listed = law_spaced flag_list dated refl (law_flag_list is_space) law_dated

starts_listed : StartsWith is_paren (flag_list spaced dated).part
unfolding flag_list_part
starts_listed = starts_then flag_list_part _ (starts_then (byte 40) _ (starts_byte 40))

law_without_flags : Law starts_dated ends_line without_flags
law_without_flags = law_made (λ x. (no_flags, x)) (λ x. dated_text x.1) dated (λ x. refl) law_dated

-- the one message behind an empty list of flags
spell_listed : (s : List ℕ) (x : Dated) → dated.part.lang s x → (flag_list spaced dated).part.lang (flagged_text (no_flags, x)) (no_flags, x)
unfolding flagged_text
spell_listed s x l =
    spell_then flag_list_part (λ flags. map (λ y. (flags, y)) (preceded 32 dated).part) (flag_list_text no_flags) (32 ∷ dated_text x) no_flags (no_flags, x)
    no_flags_printed
    (spell_map (λ y. (no_flags, y)) (preceded 32 dated).part (32 ∷ dated_text x) x
    (spell_byte 32 dated.part (dated_text x) x (law_dated.prints s x l)))

print_without : (bytes : List ℕ) (x : Flags × Dated) → without_flags.part.lang bytes x → (flag_list spaced dated).part.lang (flagged_text x) x
print_without bytes x j =
    subst (λ x. (flag_list spaced dated).part.lang (flagged_text x) x) (sym j.goes_on.1) (spell_listed j.front j.between j.begins)

print_listed : (bytes : List ℕ) (x : Flags × Dated) → (flag_list spaced dated).part.lang bytes x → (flag_list spaced dated).part.lang (flagged_text x) x
unfolding flagged_text
print_listed bytes x l = law_listed.prints bytes x l

law_flagged : Law any ends_line flagged
law_flagged =
    law_weaker any ends_line flagged (λ c h. refl) (λ c h. h)
    (law_choice is_paren flagged_text (flag_list spaced dated) without_flags starts_listed (apart_byte 40 starts_dated refl) law_listed law_without_flags
    (λ bytes x l. inl (print_listed bytes x l)) (λ bytes x l. inl (print_without bytes x l)))

pub law_append : Law ends_atom ends_line append_form
law_append = arguments_behind _ refl (law_spaced argument flagged refl law_argument law_flagged)
