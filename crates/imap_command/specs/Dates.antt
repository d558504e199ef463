-- date = date-text / DQUOTE date-text DQUOTE (RFC 9051, 9): a day, a month and a year.
use Rattle.std.specs.Prelude.{ℕ, ◌+◌, ◌-◌, ◌*◌, ◌/◌, ◌%◌, ◌==◌, false, List, [], ◌∷◌, codes, if◌then◌else◌}
use Rattle.mur_base.specs.Ascii.{digit_zero, dash, quote}
use Rattle.mur_base.specs.Number.{is_digit}
use Rattle.grammar.specs.Forms.{Form, Row, ◌and◌, preceded, choice, closed, made, numeral, table}
use Rattle.grammar.specs.Numbers.{decimal_text}
use Rattle.grammar.specs.Part.{map, one_of}
use Rattle.mail_message.specs.declared.day.Day.{Day}

-- date-day = 1*2DIGIT, from 1 to 31
abbrev pub date_day : Form ℕ
date_day = choice (λ c. c == digit_zero) decimal_text (preceded digit_zero (numeral false 9)) (numeral false 31)

-- date-month, in any case
abbrev pub month_rows : List (Row ℕ)
month_rows =
    (codes "Jan", 1) ∷ (codes "Feb", 2) ∷ (codes "Mar", 3) ∷ (codes "Apr", 4) ∷ (codes "May", 5) ∷ (codes "Jun", 6) ∷ (codes "Jul", 7) ∷ (codes "Aug", 8)
    ∷ (codes "Sep", 9) ∷ (codes "Oct", 10) ∷ (codes "Nov", 11) ∷ (codes "Dec", 12) ∷ []

-- the name of the first row with this number
unfoldable pub name_in : List (Row ℕ) → ℕ → List ℕ
name_in [] number = []
name_in (row ∷ rows) number = if row.1 == number then row.0 else name_in rows number

abbrev pub month_text : ℕ → List ℕ
month_text = name_in month_rows

abbrev pub date_month : Form ℕ
date_month = table 1 month_rows month_text

-- DIGIT, for its number
abbrev pub digit : Form ℕ
digit = record { part = map (λ c. c - digit_zero) (one_of is_digit); text = λ d. (digit_zero + d) ∷ [] }

abbrev pub year_of : ℕ × (ℕ × (ℕ × ℕ)) → ℕ
year_of x = 1000 * x.0 + 100 * x.1.0 + 10 * x.1.1.0 + x.1.1.1

unfoldable pub year_text : ℕ → List ℕ
year_text year =
    (digit_zero + year / 1000 % 10) ∷ (digit_zero + year / 100 % 10) ∷ (digit_zero + year / 10 % 10) ∷ (digit_zero + year % 10) ∷ []

-- date-year = 4DIGIT
abbrev pub date_year : Form ℕ
date_year = made year_of year_text (digit and (digit and (digit and digit)))

abbrev pub day_at : ℕ × (ℕ × ℕ) → Day
day_at x = record { day = x.0; month = x.1.0; year = x.1.1 }

abbrev pub parts_text : ℕ × (ℕ × ℕ) → List ℕ
parts_text = (date_day and preceded dash (date_month and preceded dash date_year)).text

abbrev pub date_text_of : Day → List ℕ
date_text_of day = parts_text (day.day, (day.month, day.year))

-- date-text = date-day "-" date-month "-" date-year
abbrev pub date_text : Form Day
date_text = made day_at date_text_of (date_day and preceded dash (date_month and preceded dash date_year))

-- date, printed without quotes
abbrev pub date : Form Day
date = choice (λ c. c == quote) date_text_of (closed quote date_text quote) date_text
