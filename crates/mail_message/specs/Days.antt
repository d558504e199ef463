-- Days of messages and of search keys (RFC 9051, 9: date and date-time; 6.4.4: time and zone are disregarded).
use Rattle.std.specs.Prelude.{ℕ, ◌+◌, ◌-◌, ◌*◌, Bool, ◌&&◌, ◌||◌, ◌==◌, nat_lt, nat_le, if◌then◌else◌, List, slice_index, slice_range}
use Rattle.std.specs.Prelude.{Option, Some, None, position}
use Rattle.mur_base.specs.Ascii.{digit_zero}
use Rattle.mail_message.specs.declared.day.Day.{Day}
use Rattle.mail_message.specs.Word.{is_word}
use Rattle.mail_message.specs.Date.{months}

-- a day that a date text can have: 1 to 31 in each month
abbrev pub is_on_calendar : Day → Bool
is_on_calendar day = (nat_le 1 day.day && nat_le day.day 31) && (nat_le 1 day.month && nat_le day.month 12) && nat_le day.year 9999

-- the day with these numbers, if a date text can have it
abbrev pub day_on : ℕ → ℕ → ℕ → Option Day
day_on day month year =
    let made : Day = record { day = day; month = month; year = year } in if is_on_calendar made then Some made else None

-- earlier by year, then by month, then by day
abbrev pub is_before : Day → Day → Bool
is_before one other =
    nat_lt one.year other.year
    || (one.year == other.year && (nat_lt one.month other.month || (one.month == other.month && nat_lt one.day other.day)))

-- the same day
abbrev pub is_same_day : Day → Day → Bool
is_same_day one other = (one.year == other.year) && (one.month == other.month) && (one.day == other.day)

-- the number that two digits write; a space stands for no tens
unfoldable pub two_digits : ℕ → ℕ → ℕ
two_digits tens ones = 10 * (tens - digit_zero) + (ones - digit_zero)

-- the number that four digits write
unfoldable pub four_digits : List ℕ → ℕ
four_digits text = 100 * two_digits (slice_index text 0) (slice_index text 1) + two_digits (slice_index text 2) (slice_index text 3)

-- the number of the month at a place, from 1 on; 0 where there is none
abbrev pub number_behind : Option ℕ → ℕ
number_behind None = 0
number_behind (Some at) = at + 1

-- the number of a month, from 1 on; 0 where the text is none
unfoldable pub month_number : List ℕ → ℕ
month_number text = number_behind (position (λ month. is_word text month) months)

-- the day, the month and the year with '-' between them
unfoldable pub calendar_day : List ℕ → Day
calendar_day text = record {
  day = two_digits (slice_index text 0) (slice_index text 1);
  month = month_number (slice_range text 3 6);
  year = four_digits (slice_range text 7 11);
}

-- the day of a date text, without its time and zone
unfoldable pub day_of : List ℕ → Day
day_of text = calendar_day (slice_range text 0 11)
