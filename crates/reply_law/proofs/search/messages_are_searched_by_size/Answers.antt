use Rattle.std.proofs.Common.{[], ◌∷◌, false, refl}
use Rattle.reply_law.proofs.Computes.{computes}
use Rattle.reply_law.proofs.Searches.{finds}
use Rattle.reply_law.proofs.SearchViews.{four_selected}
use Rattle.reply_law.proofs.Sought.{larger, smaller}
use Rattle.reply_law.proofs.search.messages_are_searched_by_size.Goals as goal

pub returns-clause-larger_below : goal.returns-clause-larger_below
unfolding computes
returns-clause-larger_below c = finds four_selected "a SEARCH LARGER 4" "a" false (larger 4 ∷ []) refl refl refl

pub returns-clause-larger_at : goal.returns-clause-larger_at
unfolding computes
returns-clause-larger_at c = finds four_selected "a SEARCH LARGER 5" "a" false (larger 5 ∷ []) refl refl refl

pub returns-clause-larger_below_most : goal.returns-clause-larger_below_most
unfolding computes
returns-clause-larger_below_most c = finds four_selected "a SEARCH LARGER 7" "a" false (larger 7 ∷ []) refl refl refl

pub returns-clause-larger_at_most : goal.returns-clause-larger_at_most
unfolding computes
returns-clause-larger_at_most c = finds four_selected "a SEARCH LARGER 8" "a" false (larger 8 ∷ []) refl refl refl

pub returns-clause-larger_at_least : goal.returns-clause-larger_at_least
unfolding computes
returns-clause-larger_at_least c = finds four_selected "a SEARCH LARGER 0" "a" false (larger 0 ∷ []) refl refl refl

pub returns-clause-smaller_above : goal.returns-clause-smaller_above
unfolding computes
returns-clause-smaller_above c = finds four_selected "a SEARCH SMALLER 6" "a" false (smaller 6 ∷ []) refl refl refl

pub returns-clause-smaller_at : goal.returns-clause-smaller_at
unfolding computes
returns-clause-smaller_at c = finds four_selected "a SEARCH SMALLER 5" "a" false (smaller 5 ∷ []) refl refl refl

pub returns-clause-smaller_above_least : goal.returns-clause-smaller_above_least
unfolding computes
returns-clause-smaller_above_least c = finds four_selected "a SEARCH SMALLER 1" "a" false (smaller 1 ∷ []) refl refl refl

pub returns-clause-smaller_at_least : goal.returns-clause-smaller_at_least
unfolding computes
returns-clause-smaller_at_least c = finds four_selected "a SEARCH SMALLER 0" "a" false (smaller 0 ∷ []) refl refl refl

pub returns-clause-smaller_above_most : goal.returns-clause-smaller_above_most
unfolding computes
returns-clause-smaller_above_most c = finds four_selected "a SEARCH SMALLER 9" "a" false (smaller 9 ∷ []) refl refl refl

pub returns-clause-largest_number : goal.returns-clause-largest_number
unfolding computes
returns-clause-largest_number c = finds four_selected "a SEARCH SMALLER 9223372036854775807" "a" false (smaller 9223372036854775807 ∷ []) refl refl refl

pub returns-clause-larger_number : goal.returns-clause-larger_number
unfolding computes
returns-clause-larger_number c = refl
