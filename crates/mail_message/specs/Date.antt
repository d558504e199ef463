-- The date text of a message (RFC 9051, 9: date-time), without its quotes.
use Rattle.std.specs.Prelude.{ℕ, ◌+◌, ◌-◌, ◌*◌, Bool, ◌||◌, ◌&&◌, not, ◌==◌, nat_lt}
use Rattle.std.specs.Prelude.{if◌then◌else◌, List, [], ◌∷◌, length, codes, slice_index, slice_range, Option, Some, None}
use Rattle.std.specs.Char.{is_ascii_digit}
use Rattle.std.specs.List.{list_all, list_any}
use Rattle.mail_message.specs.declared.date_text.TheConstants.{DATE_LENGTH}
use Rattle.mail_message.specs.Word.{is_word}

-- two digits that write a number below a limit
unfoldable pub is_below : ℕ → ℕ → ℕ → Bool
is_below limit tens ones = is_ascii_digit tens && is_ascii_digit ones && nat_lt (10 * (tens - 48) + (ones - 48)) limit

-- date-day-fixed: 1 to 31, two digits or a space and a digit
unfoldable pub is_day : ℕ → ℕ → Bool
is_day tens ones = (is_below 32 tens ones || (tens == 32 && is_ascii_digit ones)) && not ((tens == 48 || tens == 32) && ones == 48)

abbrev pub months : List (List ℕ)
months =
    codes "Jan" ∷ codes "Feb" ∷ codes "Mar" ∷ codes "Apr" ∷ codes "May" ∷ codes "Jun" ∷ codes "Jul" ∷ codes "Aug" ∷ codes "Sep" ∷ codes "Oct" ∷ codes "Nov"
    ∷ codes "Dec" ∷ []

-- date-month, in any case
unfoldable pub is_month : List ℕ → Bool
is_month text = list_any (λ month. is_word text month) months

-- the day, the month and the year with '-' between them
unfoldable pub is_calendar : List ℕ → Bool
is_calendar text =
    is_day (slice_index text 0) (slice_index text 1) && (slice_index text 2 == 45) && is_month (slice_range text 3 6) && (slice_index text 6 == 45)
    && list_all is_ascii_digit (slice_range text 7 11)

-- time: the hour, the minute and the second with ':' between them
unfoldable pub is_clock : List ℕ → Bool
is_clock text =
    is_below 24 (slice_index text 0) (slice_index text 1) && (slice_index text 2 == 58) && is_below 60 (slice_index text 3) (slice_index text 4)
    && (slice_index text 5 == 58) && is_below 60 (slice_index text 6) (slice_index text 7)

-- zone: a sign and four digits
unfoldable pub is_zone : List ℕ → Bool
is_zone text = (slice_index text 0 == 43 || slice_index text 0 == 45) && list_all is_ascii_digit (slice_range text 1 5)

-- the day, a space, the time, a space and the zone
unfoldable pub is_date : List ℕ → Bool
is_date text =
    (length text == DATE_LENGTH) && is_calendar (slice_range text 0 11) && (slice_index text 11 == 32) && is_clock (slice_range text 12 20)
    && (slice_index text 20 == 32) && is_zone (slice_range text 21 26)

-- the date that a text is
unfoldable pub date_of : List ℕ → Option (List ℕ)
date_of text = if is_date text then Some text else None
