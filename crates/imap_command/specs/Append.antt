-- append = "APPEND" SP mailbox [SP flag-list] [SP date-time] SP literal (RFC 9051, 6.3.12 and 9).
use Rattle.std.specs.Prelude.{ℕ, ◌==◌, List, ◌∷◌, ◌++◌, Option, None, Some}
use Rattle.mur_base.specs.Ascii.{space, quote, open_paren}
use Rattle.grammar.specs.Forms.{Form, preceded, ◌spaced◌, made, choice}
use Rattle.mail_message.specs.FlagSets.{Flags, no_flags}
use Rattle.text_parts.specs.Dates.{date_time}
use Rattle.imap_command.specs.Flags.{flag_list, flag_list_text}
use Rattle.imap_text.specs.Strings.{argument, message}

-- a message with its date, where one is given
abbrev pub Dated : Type 0
Dated = Option (List ℕ) × List ℕ

unfoldable pub dated_text : Dated → List ℕ
dated_text (Some date, body) = (date_time spaced message).text (date, body)
dated_text (None, body) = message.text body

-- [date-time SP] literal
abbrev pub with_date : Form Dated
with_date = made (λ x. (Some x.0, x.1)) dated_text (date_time spaced message)

abbrev pub without_date : Form Dated
without_date = made (λ body. (None, body)) dated_text message

abbrev pub dated : Form Dated
dated = choice (λ c. c == quote) dated_text with_date without_date

abbrev pub without_flags : Form (Flags × Dated)
without_flags = made (λ x. (no_flags, x)) (λ x. dated_text x.1) dated

-- flags are printed in a list, which may be empty
unfoldable pub flagged_text : Flags × Dated → List ℕ
flagged_text x = flag_list_text x.0 ++ space ∷ dated_text x.1

-- [flag-list SP] [date-time SP] literal
abbrev pub flagged : Form (Flags × Dated)
flagged = choice (λ c. c == open_paren) flagged_text (flag_list spaced dated) without_flags

-- SP mailbox SP [flag-list SP] [date-time SP] literal
abbrev pub append_form : Form (List ℕ × (Flags × Dated))
append_form = preceded space (argument spaced flagged)
