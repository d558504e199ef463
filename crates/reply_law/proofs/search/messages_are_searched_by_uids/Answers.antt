use Rattle.std.proofs.Common.{[], ◌∷◌, false, refl}
use Rattle.mail_message.specs.declared.set.SetEnd.TheVariants.{Number, Last}
use Rattle.mail_message.specs.declared.set.SetPart.TheVariants.{One, Range}
use Rattle.reply_law.proofs.Computes.{computes}
use Rattle.reply_law.proofs.Searches.{finds}
use Rattle.reply_law.proofs.SearchViews.{empty_selected, four_selected}
use Rattle.reply_law.proofs.Sought.{uid}
use Rattle.reply_law.proofs.search.messages_are_searched_by_uids.Goals as goal

pub returns-clause-one : goal.returns-clause-one
unfolding computes
returns-clause-one c = finds four_selected "a SEARCH UID 5" "a" false (uid (One (Number 5) ∷ []) ∷ []) refl refl refl

pub returns-clause-number_of_another : goal.returns-clause-number_of_another
unfolding computes
returns-clause-number_of_another c = finds four_selected "a SEARCH UID 3" "a" false (uid (One (Number 3) ∷ []) ∷ []) refl refl refl

pub returns-clause-range : goal.returns-clause-range
unfolding computes
returns-clause-range c = finds four_selected "a SEARCH UID 5:8" "a" false (uid (Range (Number 5) (Number 8) ∷ []) ∷ []) refl refl refl

pub returns-clause-falling : goal.returns-clause-falling
unfolding computes
returns-clause-falling c = finds four_selected "a SEARCH UID 8:5" "a" false (uid (Range (Number 8) (Number 5) ∷ []) ∷ []) refl refl refl

pub returns-clause-gaps : goal.returns-clause-gaps
unfolding computes
returns-clause-gaps c = finds four_selected "a SEARCH UID 4:7" "a" false (uid (Range (Number 4) (Number 7) ∷ []) ∷ []) refl refl refl

pub returns-clause-list : goal.returns-clause-list
unfolding computes
returns-clause-list c = finds four_selected "a SEARCH UID 9,3" "a" false (uid (One (Number 9) ∷ One (Number 3) ∷ []) ∷ []) refl refl refl

pub returns-clause-missing : goal.returns-clause-missing
unfolding computes
returns-clause-missing c = finds four_selected "a SEARCH UID 6:7" "a" false (uid (Range (Number 6) (Number 7) ∷ []) ∷ []) refl refl refl

pub returns-clause-above : goal.returns-clause-above
unfolding computes
returns-clause-above c = finds four_selected "a SEARCH UID 10" "a" false (uid (One (Number 10) ∷ []) ∷ []) refl refl refl

pub returns-clause-last : goal.returns-clause-last
unfolding computes
returns-clause-last c = finds four_selected "a SEARCH UID *" "a" false (uid (One Last ∷ []) ∷ []) refl refl refl

pub returns-clause-to_last : goal.returns-clause-to_last
unfolding computes
returns-clause-to_last c = finds four_selected "a SEARCH UID 8:*" "a" false (uid (Range (Number 8) Last ∷ []) ∷ []) refl refl refl

pub returns-clause-above_to_last : goal.returns-clause-above_to_last
unfolding computes
returns-clause-above_to_last c = finds four_selected "a SEARCH UID 100:*" "a" false (uid (Range (Number 100) Last ∷ []) ∷ []) refl refl refl

pub returns-clause-last_of_none : goal.returns-clause-last_of_none
unfolding computes
returns-clause-last_of_none c = finds empty_selected "a SEARCH UID *" "a" false (uid (One Last ∷ []) ∷ []) refl refl refl

pub returns-clause-greatest : goal.returns-clause-greatest
unfolding computes
returns-clause-greatest c = finds four_selected "a SEARCH UID 4294967295" "a" false (uid (One (Number 4294967295) ∷ []) ∷ []) refl refl refl

pub returns-clause-zero : goal.returns-clause-zero
unfolding computes
returns-clause-zero c = refl

pub returns-clause-no_set : goal.returns-clause-no_set
unfolding computes
returns-clause-no_set c = refl
