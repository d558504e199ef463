use Rattle.std.proofs.Common.{[], ◌∷◌, false, refl}
use Rattle.mail_message.specs.declared.set.SetEnd.TheVariants.{Number, Last}
use Rattle.mail_message.specs.declared.set.SetPart.TheVariants.{One, Range}
use Rattle.reply_law.proofs.Computes.{computes}
use Rattle.reply_law.proofs.Searches.{finds, lacks}
use Rattle.reply_law.proofs.SearchViews.{empty_selected, four_selected}
use Rattle.reply_law.proofs.Sought.{all, numbers}
use Rattle.reply_law.proofs.search.messages_are_searched_by_numbers.Goals as goal

pub returns-clause-one : goal.returns-clause-one
unfolding computes
returns-clause-one c = finds four_selected "a SEARCH 2" "a" false (numbers (One (Number 2) ∷ []) ∷ []) refl refl refl

pub returns-clause-range : goal.returns-clause-range
unfolding computes
returns-clause-range c = finds four_selected "a SEARCH 2:3" "a" false (numbers (Range (Number 2) (Number 3) ∷ []) ∷ []) refl refl refl

pub returns-clause-falling : goal.returns-clause-falling
unfolding computes
returns-clause-falling c = finds four_selected "a SEARCH 3:2" "a" false (numbers (Range (Number 3) (Number 2) ∷ []) ∷ []) refl refl refl

pub returns-clause-gap : goal.returns-clause-gap
unfolding computes
returns-clause-gap c = finds four_selected "a SEARCH 4,1" "a" false (numbers (One (Number 4) ∷ One (Number 1) ∷ []) ∷ []) refl refl refl

pub returns-clause-twice : goal.returns-clause-twice
unfolding computes
returns-clause-twice c = finds four_selected "a SEARCH 2,1:2" "a" false (numbers (One (Number 2) ∷ Range (Number 1) (Number 2) ∷ []) ∷ []) refl refl refl

pub returns-clause-last : goal.returns-clause-last
unfolding computes
returns-clause-last c = finds four_selected "a SEARCH *" "a" false (numbers (One Last ∷ []) ∷ []) refl refl refl

pub returns-clause-to_last : goal.returns-clause-to_last
unfolding computes
returns-clause-to_last c = finds four_selected "a SEARCH 3:*" "a" false (numbers (Range (Number 3) Last ∷ []) ∷ []) refl refl refl

pub returns-clause-from_last : goal.returns-clause-from_last
unfolding computes
returns-clause-from_last c = finds four_selected "a SEARCH *:3" "a" false (numbers (Range Last (Number 3) ∷ []) ∷ []) refl refl refl

pub returns-clause-last_to_last : goal.returns-clause-last_to_last
unfolding computes
returns-clause-last_to_last c = finds four_selected "a SEARCH *:*" "a" false (numbers (Range Last Last ∷ []) ∷ []) refl refl refl

pub returns-clause-above : goal.returns-clause-above
unfolding computes
returns-clause-above c = lacks four_selected.views "a SEARCH 5" "a" false (numbers (One (Number 5) ∷ []) ∷ []) refl refl refl

pub returns-clause-range_above : goal.returns-clause-range_above
unfolding computes
returns-clause-range_above c = lacks four_selected.views "a SEARCH 4:5" "a" false (numbers (Range (Number 4) (Number 5) ∷ []) ∷ []) refl refl refl

pub returns-clause-above_to_last : goal.returns-clause-above_to_last
unfolding computes
returns-clause-above_to_last c = lacks four_selected.views "a SEARCH 5:*" "a" false (numbers (Range (Number 5) Last ∷ []) ∷ []) refl refl refl

pub returns-clause-above_behind : goal.returns-clause-above_behind
unfolding computes
returns-clause-above_behind c = lacks four_selected.views "a SEARCH 1,5" "a" false (numbers (One (Number 1) ∷ One (Number 5) ∷ []) ∷ []) refl refl refl

pub returns-clause-none : goal.returns-clause-none
unfolding computes
returns-clause-none c = finds empty_selected "a SEARCH ALL" "a" false (all ∷ []) refl refl refl

pub returns-clause-one_of_none : goal.returns-clause-one_of_none
unfolding computes
returns-clause-one_of_none c = lacks empty_selected.views "a SEARCH 1" "a" false (numbers (One (Number 1) ∷ []) ∷ []) refl refl refl

pub returns-clause-last_of_none : goal.returns-clause-last_of_none
unfolding computes
returns-clause-last_of_none c = lacks empty_selected.views "a SEARCH *" "a" false (numbers (One Last ∷ []) ∷ []) refl refl refl

pub returns-clause-zero : goal.returns-clause-zero
unfolding computes
returns-clause-zero c = refl

pub returns-clause-no_end : goal.returns-clause-no_end
unfolding computes
returns-clause-no_end c = refl

pub returns-clause-too_large_a_number : goal.returns-clause-too_large_a_number
unfolding computes
returns-clause-too_large_a_number c = refl
