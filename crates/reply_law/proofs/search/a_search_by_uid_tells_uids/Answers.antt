use Rattle.std.proofs.Common.{[], ◌∷◌, true, refl}
use Rattle.std.specs.Prelude.{codes}
use Rattle.mail_message.specs.declared.flag_name.FlagName.TheVariants.{Keyword}
use Rattle.mail_message.specs.declared.set.SetEnd.TheVariants.{Number, Last}
use Rattle.mail_message.specs.declared.set.SetPart.TheVariants.{One, Range}
use Rattle.reply_law.proofs.Computes.{computes}
use Rattle.reply_law.proofs.Searches.{finds, lacks}
use Rattle.reply_law.proofs.SearchViews.{empty_selected, four_examined, four_selected}
use Rattle.reply_law.proofs.Sought.{all, deleted, draft, either, is_not, keyword, larger, numbers, seen, since, uid, undeleted, unseen}
use Rattle.reply_law.proofs.search.a_search_by_uid_tells_uids.Goals as goal

pub returns-clause-all : goal.returns-clause-all
unfolding computes
returns-clause-all c = finds four_selected "a UID SEARCH ALL" "a" true (all ∷ []) refl refl refl

pub returns-clause-one : goal.returns-clause-one
unfolding computes
returns-clause-one c = finds four_selected "a UID SEARCH DELETED" "a" true (deleted ∷ []) refl refl refl

pub returns-clause-none : goal.returns-clause-none
unfolding computes
returns-clause-none c = finds four_selected "a UID SEARCH KEYWORD work" "a" true (keyword (Keyword (codes "work")) ∷ []) refl refl refl

pub returns-clause-number : goal.returns-clause-number
unfolding computes
returns-clause-number c = finds four_selected "a UID SEARCH 2" "a" true (numbers (One (Number 2) ∷ []) ∷ []) refl refl refl

pub returns-clause-falling : goal.returns-clause-falling
unfolding computes
returns-clause-falling c = finds four_selected "a UID SEARCH 3:2" "a" true (numbers (Range (Number 3) (Number 2) ∷ []) ∷ []) refl refl refl

pub returns-clause-last : goal.returns-clause-last
unfolding computes
returns-clause-last c = finds four_selected "a UID SEARCH *" "a" true (numbers (One Last ∷ []) ∷ []) refl refl refl

pub returns-clause-uids : goal.returns-clause-uids
unfolding computes
returns-clause-uids c = finds four_selected "a UID SEARCH UID 4:8" "a" true (uid (Range (Number 4) (Number 8) ∷ []) ∷ []) refl refl refl

pub returns-clause-negated : goal.returns-clause-negated
unfolding computes
returns-clause-negated c = finds four_selected "a UID SEARCH NOT LARGER 2" "a" true (is_not (larger 2) ∷ []) refl refl refl

pub returns-clause-both : goal.returns-clause-both
unfolding computes
returns-clause-both c = finds four_selected "a UID SEARCH SINCE 18-Jul-1996 UNDELETED" "a" true (since (record { day = 18; month = 7; year = 1996 }) ∷ undeleted ∷ []) refl refl refl

pub returns-clause-read_only : goal.returns-clause-read_only
unfolding computes
returns-clause-read_only c = finds four_examined "a UID SEARCH UNSEEN" "a" true (unseen ∷ []) refl refl refl

pub returns-clause-of_none : goal.returns-clause-of_none
unfolding computes
returns-clause-of_none c = finds empty_selected "a UID SEARCH ALL" "a" true (all ∷ []) refl refl refl

pub returns-clause-return_all : goal.returns-clause-return_all
unfolding computes
returns-clause-return_all c = finds four_selected "a UID SEARCH RETURN (ALL) DRAFT" "a" true (draft ∷ []) refl refl refl

pub returns-clause-above : goal.returns-clause-above
unfolding computes
returns-clause-above c = lacks four_selected.views "a UID SEARCH 5" "a" true (numbers (One (Number 5) ∷ []) ∷ []) refl refl refl

pub returns-clause-above_within : goal.returns-clause-above_within
unfolding computes
returns-clause-above_within c = lacks four_selected.views "a UID SEARCH OR SEEN NOT 5" "a" true (either seen (is_not (numbers (One (Number 5) ∷ []))) ∷ []) refl refl refl

pub returns-clause-last_of_none : goal.returns-clause-last_of_none
unfolding computes
returns-clause-last_of_none c = lacks empty_selected.views "a UID SEARCH *" "a" true (numbers (One Last ∷ []) ∷ []) refl refl refl
