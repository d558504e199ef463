-- date-time (RFC 9051, 9): a date text between quotes.
use Rattle.std.specs.Prelude.{ℕ, Bool, true, List, [], ◌∷◌, ◌++◌, length, drop, map, codes}
use Rattle.std.specs.List.{list_any}
use Rattle.mur_base.specs.Ascii.{quote}
use Rattle.grammar.specs.Forms.{Form, as_it_stands, closed}
use Rattle.grammar.specs.Words.{Words}
use Rattle.mail_message.specs.Date.{is_date, months}

-- a date in each month
abbrev pub samples : List (List ℕ)
samples = map (λ month. codes "01-" ++ (month ++ codes "-0000 00:00:00 +0000")) months

-- the text is a date with the rest of a sample behind it
unfoldable pub is_date_so_far : List ℕ → Bool
is_date_so_far text = list_any (λ sample. is_date (text ++ drop (length text) sample)) samples

-- the text begins a date
abbrev pub begins_date : List ℕ → Bool
begins_date [] = true
begins_date (c ∷ text) = is_date_so_far (c ∷ text)

abbrev pub dates : Words
dates = record { begins = begins_date; whole = is_date }

abbrev pub date_time : Form (List ℕ)
date_time = closed quote (as_it_stands dates) quote
