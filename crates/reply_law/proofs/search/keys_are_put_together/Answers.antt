use Rattle.std.proofs.Common.{[], ◌∷◌, false, refl}
use Rattle.std.specs.Prelude.{codes}
use Rattle.mail_message.specs.declared.flag_name.FlagName.TheVariants.{Keyword}
use Rattle.mail_message.specs.declared.set.SetEnd.TheVariants.{Number, Last}
use Rattle.mail_message.specs.declared.set.SetPart.TheVariants.{One, Range}
use Rattle.reply_law.proofs.Computes.{computes}
use Rattle.reply_law.proofs.Searches.{finds, lacks}
use Rattle.reply_law.proofs.SearchViews.{four_selected}
use Rattle.reply_law.proofs.Sought.{all, answered, deleted, draft, either, group, is_not, keyword, larger, numbers, seen, uid, undeleted, unseen}
use Rattle.reply_law.proofs.search.keys_are_put_together.Goals as goal

pub returns-clause-negated : goal.returns-clause-negated
unfolding computes
returns-clause-negated c = finds four_selected "a SEARCH NOT SEEN" "a" false (is_not seen ∷ []) refl refl refl

pub returns-clause-negated_twice : goal.returns-clause-negated_twice
unfolding computes
returns-clause-negated_twice c = finds four_selected "a SEARCH NOT NOT SEEN" "a" false (is_not (is_not seen) ∷ []) refl refl refl

pub returns-clause-either : goal.returns-clause-either
unfolding computes
returns-clause-either c = finds four_selected "a SEARCH OR SEEN DELETED" "a" false (either seen deleted ∷ []) refl refl refl

pub returns-clause-either_first : goal.returns-clause-either_first
unfolding computes
returns-clause-either_first c = finds four_selected "a SEARCH OR OR SEEN DELETED DRAFT" "a" false (either (either seen deleted) draft ∷ []) refl refl refl

pub returns-clause-either_second : goal.returns-clause-either_second
unfolding computes
returns-clause-either_second c = finds four_selected "a SEARCH OR SEEN OR DELETED DRAFT" "a" false (either seen (either deleted draft) ∷ []) refl refl refl

pub returns-clause-either_of_both : goal.returns-clause-either_of_both
unfolding computes
returns-clause-either_of_both c = finds four_selected "a SEARCH OR ALL SEEN" "a" false (either all seen ∷ []) refl refl refl

pub returns-clause-both : goal.returns-clause-both
unfolding computes
returns-clause-both c = finds four_selected "a SEARCH UNSEEN UNDELETED" "a" false (unseen ∷ undeleted ∷ []) refl refl refl

pub returns-clause-three : goal.returns-clause-three
unfolding computes
returns-clause-three c = finds four_selected "a SEARCH UNSEEN UNDELETED LARGER 1" "a" false (unseen ∷ undeleted ∷ larger 1 ∷ []) refl refl refl

pub returns-clause-none_of_both : goal.returns-clause-none_of_both
unfolding computes
returns-clause-none_of_both c = finds four_selected "a SEARCH SEEN DELETED" "a" false (seen ∷ deleted ∷ []) refl refl refl

pub returns-clause-either_and_one : goal.returns-clause-either_and_one
unfolding computes
returns-clause-either_and_one c = finds four_selected "a SEARCH OR SEEN DELETED UNDELETED" "a" false (either seen deleted ∷ undeleted ∷ []) refl refl refl

pub returns-clause-group : goal.returns-clause-group
unfolding computes
returns-clause-group c = finds four_selected "a SEARCH (UNSEEN UNDELETED)" "a" false (group (unseen ∷ undeleted ∷ []) ∷ []) refl refl refl

pub returns-clause-group_of_one : goal.returns-clause-group_of_one
unfolding computes
returns-clause-group_of_one c = finds four_selected "a SEARCH ((ANSWERED))" "a" false (group (group (answered ∷ []) ∷ []) ∷ []) refl refl refl

pub returns-clause-negated_group : goal.returns-clause-negated_group
unfolding computes
returns-clause-negated_group c = finds four_selected "a SEARCH NOT (UNSEEN UNDELETED)" "a" false (is_not (group (unseen ∷ undeleted ∷ [])) ∷ []) refl refl refl

pub returns-clause-negated_first : goal.returns-clause-negated_first
unfolding computes
returns-clause-negated_first c = finds four_selected "a SEARCH NOT UNSEEN UNDELETED" "a" false (is_not unseen ∷ undeleted ∷ []) refl refl refl

pub returns-clause-either_group : goal.returns-clause-either_group
unfolding computes
returns-clause-either_group c = finds four_selected "a SEARCH OR (SEEN LARGER 4) (DRAFT UNDELETED)" "a" false (either (group (seen ∷ larger 4 ∷ [])) (group (draft ∷ undeleted ∷ [])) ∷ []) refl refl refl

pub returns-clause-group_and_one : goal.returns-clause-group_and_one
unfolding computes
returns-clause-group_and_one c = finds four_selected "a SEARCH (OR SEEN DRAFT) 2:4" "a" false (group (either seen draft ∷ []) ∷ numbers (Range (Number 2) (Number 4) ∷ []) ∷ []) refl refl refl

pub returns-clause-negated_number : goal.returns-clause-negated_number
unfolding computes
returns-clause-negated_number c = finds four_selected "a SEARCH NOT 2" "a" false (is_not (numbers (One (Number 2) ∷ [])) ∷ []) refl refl refl

pub returns-clause-negated_last : goal.returns-clause-negated_last
unfolding computes
returns-clause-negated_last c = finds four_selected "a SEARCH NOT *" "a" false (is_not (numbers (One Last ∷ [])) ∷ []) refl refl refl

pub returns-clause-negated_uid : goal.returns-clause-negated_uid
unfolding computes
returns-clause-negated_uid c = finds four_selected "a SEARCH NOT UID 5:9" "a" false (is_not (uid (Range (Number 5) (Number 9) ∷ [])) ∷ []) refl refl refl

pub returns-clause-negated_keyword : goal.returns-clause-negated_keyword
unfolding computes
returns-clause-negated_keyword c = finds four_selected "a SEARCH NOT KEYWORD Work" "a" false (is_not (keyword (Keyword (codes "Work"))) ∷ []) refl refl refl

pub returns-clause-number_or_uid : goal.returns-clause-number_or_uid
unfolding computes
returns-clause-number_or_uid c = finds four_selected "a SEARCH OR 1 UID 9" "a" false (either (numbers (One (Number 1) ∷ [])) (uid (One (Number 9) ∷ [])) ∷ []) refl refl refl

pub returns-clause-negated_above : goal.returns-clause-negated_above
unfolding computes
returns-clause-negated_above c = lacks four_selected.views "a SEARCH NOT 5" "a" false (is_not (numbers (One (Number 5) ∷ [])) ∷ []) refl refl refl

pub returns-clause-either_above : goal.returns-clause-either_above
unfolding computes
returns-clause-either_above c = lacks four_selected.views "a SEARCH OR ALL 5" "a" false (either all (numbers (One (Number 5) ∷ [])) ∷ []) refl refl refl

pub returns-clause-group_above : goal.returns-clause-group_above
unfolding computes
returns-clause-group_above c = lacks four_selected.views "a SEARCH SEEN (DELETED (1:5))" "a" false (seen ∷ group (deleted ∷ group (numbers (Range (Number 1) (Number 5) ∷ []) ∷ []) ∷ []) ∷ []) refl refl refl

pub returns-clause-return_all : goal.returns-clause-return_all
unfolding computes
returns-clause-return_all c = finds four_selected "a SEARCH RETURN (ALL) SEEN" "a" false (seen ∷ []) refl refl refl

pub returns-clause-return_none : goal.returns-clause-return_none
unfolding computes
returns-clause-return_none c = finds four_selected "a SEARCH RETURN () SEEN" "a" false (seen ∷ []) refl refl refl

pub returns-clause-return_any_case : goal.returns-clause-return_any_case
unfolding computes
returns-clause-return_any_case c = finds four_selected "a SEARCH return (all) seen" "a" false (seen ∷ []) refl refl refl
