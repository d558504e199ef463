use Rattle.std.proofs.Common.{◌≡◌, true, ℕ, List, slice_index, slice_range, arith}
use Rattle.std.proofs.lemmas.Bool.{and_parts}
use Rattle.std.proofs.lemmas.Bool.Decides.{nat_tests}
use Rattle.mail_message.specs.Date.{is_calendar, is_day, is_month}
use Rattle.mail_message.proofs.DayLaws.{day-tens, day-ones, day-least, day-greatest, month-within}
use Rattle.mail_message.proofs.date_text.calendar_day.Goals as goal

day : (text : List ℕ) → is_calendar text ≡ true → is_day (slice_index text 0) (slice_index text 1) ≡ true
unfolding is_calendar
day text h = (and_parts _ _ (and_parts _ _ (and_parts _ _ (and_parts _ _ h).0).0).0).0

month : (text : List ℕ) → is_calendar text ≡ true → is_month (slice_range text 3 6) ≡ true
unfolding is_calendar
month text h = (and_parts _ _ (and_parts _ _ (and_parts _ _ h).0).0).1

pub two_digits-requires-clause-tens : goal.two_digits-requires-clause-tens
two_digits-requires-clause-tens c = day-tens _ _ (day c.args.text.now c.requires.calendar)

pub two_digits-requires-clause-ones : goal.two_digits-requires-clause-ones
two_digits-requires-clause-ones c = day-ones _ _ (day c.args.text.now c.requires.calendar)

pub returns-clause-calendar : goal.returns-clause-calendar
returns-clause-calendar c =
    let is_day = day c.args.text.now c.requires.calendar in
    let least = day-least _ _ is_day in
    let greatest = day-greatest _ _ is_day in
    let month = month-within _ (month c.args.text.now c.requires.calendar) in
    grind (arith, nat_tests, least, greatest, month.0, month.1, c.two_digits.ensures.value, c.month_number.ensures, c.four_digits.ensures.below)
