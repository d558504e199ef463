use Rattle.std.proofs.Common.{[], ◌∷◌, false, refl}
use Rattle.reply_law.proofs.Computes.{computes}
use Rattle.reply_law.proofs.Searches.{finds}
use Rattle.reply_law.proofs.SearchViews.{four_selected}
use Rattle.reply_law.proofs.Sought.{before, on, since}
use Rattle.reply_law.proofs.search.messages_are_searched_by_day.Goals as goal

pub returns-clause-before : goal.returns-clause-before
unfolding computes
returns-clause-before c = finds four_selected "a SEARCH BEFORE 17-Jul-1996" "a" false (before (record { day = 17; month = 7; year = 1996 }) ∷ []) refl refl refl

pub returns-clause-before_next : goal.returns-clause-before_next
unfolding computes
returns-clause-before_next c = finds four_selected "a SEARCH BEFORE 18-Jul-1996" "a" false (before (record { day = 18; month = 7; year = 1996 }) ∷ []) refl refl refl

pub returns-clause-before_one_more : goal.returns-clause-before_one_more
unfolding computes
returns-clause-before_one_more c = finds four_selected "a SEARCH BEFORE 19-Jul-1996" "a" false (before (record { day = 19; month = 7; year = 1996 }) ∷ []) refl refl refl

pub returns-clause-before_month : goal.returns-clause-before_month
unfolding computes
returns-clause-before_month c = finds four_selected "a SEARCH BEFORE 1-Aug-1996" "a" false (before (record { day = 1; month = 8; year = 1996 }) ∷ []) refl refl refl

pub returns-clause-before_within_month : goal.returns-clause-before_within_month
unfolding computes
returns-clause-before_within_month c = finds four_selected "a SEARCH BEFORE 2-Aug-1996" "a" false (before (record { day = 2; month = 8; year = 1996 }) ∷ []) refl refl refl

pub returns-clause-before_year : goal.returns-clause-before_year
unfolding computes
returns-clause-before_year c = finds four_selected "a SEARCH BEFORE 17-Jul-1997" "a" false (before (record { day = 17; month = 7; year = 1997 }) ∷ []) refl refl refl

pub returns-clause-before_none : goal.returns-clause-before_none
unfolding computes
returns-clause-before_none c = finds four_selected "a SEARCH BEFORE 18-Jul-1997" "a" false (before (record { day = 18; month = 7; year = 1997 }) ∷ []) refl refl refl

pub returns-clause-on_earlier : goal.returns-clause-on_earlier
unfolding computes
returns-clause-on_earlier c = finds four_selected "a SEARCH ON 16-Jul-1996" "a" false (on (record { day = 16; month = 7; year = 1996 }) ∷ []) refl refl refl

pub returns-clause-on : goal.returns-clause-on
unfolding computes
returns-clause-on c = finds four_selected "a SEARCH ON 17-Jul-1996" "a" false (on (record { day = 17; month = 7; year = 1996 }) ∷ []) refl refl refl

pub returns-clause-on_later : goal.returns-clause-on_later
unfolding computes
returns-clause-on_later c = finds four_selected "a SEARCH ON 18-Jul-1996" "a" false (on (record { day = 18; month = 7; year = 1996 }) ∷ []) refl refl refl

pub returns-clause-on_latest : goal.returns-clause-on_latest
unfolding computes
returns-clause-on_latest c = finds four_selected "a SEARCH ON 19-Jul-1996" "a" false (on (record { day = 19; month = 7; year = 1996 }) ∷ []) refl refl refl

pub returns-clause-on_other_month : goal.returns-clause-on_other_month
unfolding computes
returns-clause-on_other_month c = finds four_selected "a SEARCH ON 17-Aug-1996" "a" false (on (record { day = 17; month = 8; year = 1996 }) ∷ []) refl refl refl

pub returns-clause-on_other_year : goal.returns-clause-on_other_year
unfolding computes
returns-clause-on_other_year c = finds four_selected "a SEARCH ON 17-Jul-1997" "a" false (on (record { day = 17; month = 7; year = 1997 }) ∷ []) refl refl refl

pub returns-clause-zone_behind : goal.returns-clause-zone_behind
unfolding computes
returns-clause-zone_behind c = finds four_selected "a SEARCH ON 1-Aug-1996" "a" false (on (record { day = 1; month = 8; year = 1996 }) ∷ []) refl refl refl

pub returns-clause-zone_behind_in_utc : goal.returns-clause-zone_behind_in_utc
unfolding computes
returns-clause-zone_behind_in_utc c = finds four_selected "a SEARCH ON 2-Aug-1996" "a" false (on (record { day = 2; month = 8; year = 1996 }) ∷ []) refl refl refl

pub returns-clause-zone_ahead_in_utc : goal.returns-clause-zone_ahead_in_utc
unfolding computes
returns-clause-zone_ahead_in_utc c = finds four_selected "a SEARCH ON 16-Jul-1997" "a" false (on (record { day = 16; month = 7; year = 1997 }) ∷ []) refl refl refl

pub returns-clause-since_earlier : goal.returns-clause-since_earlier
unfolding computes
returns-clause-since_earlier c = finds four_selected "a SEARCH SINCE 16-Jul-1996" "a" false (since (record { day = 16; month = 7; year = 1996 }) ∷ []) refl refl refl

pub returns-clause-since : goal.returns-clause-since
unfolding computes
returns-clause-since c = finds four_selected "a SEARCH SINCE 17-Jul-1996" "a" false (since (record { day = 17; month = 7; year = 1996 }) ∷ []) refl refl refl

pub returns-clause-since_later : goal.returns-clause-since_later
unfolding computes
returns-clause-since_later c = finds four_selected "a SEARCH SINCE 18-Jul-1996" "a" false (since (record { day = 18; month = 7; year = 1996 }) ∷ []) refl refl refl

pub returns-clause-since_month : goal.returns-clause-since_month
unfolding computes
returns-clause-since_month c = finds four_selected "a SEARCH SINCE 1-Aug-1996" "a" false (since (record { day = 1; month = 8; year = 1996 }) ∷ []) refl refl refl

pub returns-clause-since_within_month : goal.returns-clause-since_within_month
unfolding computes
returns-clause-since_within_month c = finds four_selected "a SEARCH SINCE 2-Aug-1996" "a" false (since (record { day = 2; month = 8; year = 1996 }) ∷ []) refl refl refl

pub returns-clause-since_year : goal.returns-clause-since_year
unfolding computes
returns-clause-since_year c = finds four_selected "a SEARCH SINCE 17-Jul-1997" "a" false (since (record { day = 17; month = 7; year = 1997 }) ∷ []) refl refl refl

pub returns-clause-since_none : goal.returns-clause-since_none
unfolding computes
returns-clause-since_none c = finds four_selected "a SEARCH SINCE 18-Jul-1997" "a" false (since (record { day = 18; month = 7; year = 1997 }) ∷ []) refl refl refl

pub returns-clause-quoted : goal.returns-clause-quoted
unfolding computes
returns-clause-quoted c = finds four_selected "a SEARCH ON \"17-Jul-1997\"" "a" false (on (record { day = 17; month = 7; year = 1997 }) ∷ []) refl refl refl

pub returns-clause-two_digits : goal.returns-clause-two_digits
unfolding computes
returns-clause-two_digits c = finds four_selected "a SEARCH ON 01-Aug-1996" "a" false (on (record { day = 1; month = 8; year = 1996 }) ∷ []) refl refl refl

pub returns-clause-any_case : goal.returns-clause-any_case
unfolding computes
returns-clause-any_case c = finds four_selected "a SEARCH on 1-aUG-1996" "a" false (on (record { day = 1; month = 8; year = 1996 }) ∷ []) refl refl refl

pub returns-clause-no_day : goal.returns-clause-no_day
unfolding computes
returns-clause-no_day c = refl

pub returns-clause-too_late_a_day : goal.returns-clause-too_late_a_day
unfolding computes
returns-clause-too_late_a_day c = refl

pub returns-clause-no_month : goal.returns-clause-no_month
unfolding computes
returns-clause-no_month c = refl

pub returns-clause-short_year : goal.returns-clause-short_year
unfolding computes
returns-clause-short_year c = refl

pub returns-clause-with_time : goal.returns-clause-with_time
unfolding computes
returns-clause-with_time c = refl
