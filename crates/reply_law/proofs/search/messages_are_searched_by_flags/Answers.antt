use Rattle.std.proofs.Common.{[], ◌∷◌, false, refl}
use Rattle.std.specs.Prelude.{codes}
use Rattle.mail_message.specs.declared.flag_name.FlagName.TheVariants.{Keyword}
use Rattle.reply_law.proofs.Computes.{computes}
use Rattle.reply_law.proofs.Searches.{finds}
use Rattle.reply_law.proofs.SearchViews.{four_examined, four_selected}
use Rattle.reply_law.proofs.Sought.{all, answered, deleted, draft, flagged, keyword, seen, unanswered, undeleted, undraft, unflagged, unkeyword, unseen}
use Rattle.reply_law.proofs.search.messages_are_searched_by_flags.Goals as goal

pub returns-clause-all : goal.returns-clause-all
unfolding computes
returns-clause-all c = finds four_selected "a SEARCH ALL" "a" false (all ∷ []) refl refl refl

pub returns-clause-answered : goal.returns-clause-answered
unfolding computes
returns-clause-answered c = finds four_selected "a SEARCH ANSWERED" "a" false (answered ∷ []) refl refl refl

pub returns-clause-unanswered : goal.returns-clause-unanswered
unfolding computes
returns-clause-unanswered c = finds four_selected "a SEARCH UNANSWERED" "a" false (unanswered ∷ []) refl refl refl

pub returns-clause-deleted : goal.returns-clause-deleted
unfolding computes
returns-clause-deleted c = finds four_selected "a SEARCH DELETED" "a" false (deleted ∷ []) refl refl refl

pub returns-clause-undeleted : goal.returns-clause-undeleted
unfolding computes
returns-clause-undeleted c = finds four_selected "a SEARCH UNDELETED" "a" false (undeleted ∷ []) refl refl refl

pub returns-clause-draft : goal.returns-clause-draft
unfolding computes
returns-clause-draft c = finds four_selected "a SEARCH DRAFT" "a" false (draft ∷ []) refl refl refl

pub returns-clause-undraft : goal.returns-clause-undraft
unfolding computes
returns-clause-undraft c = finds four_selected "a SEARCH UNDRAFT" "a" false (undraft ∷ []) refl refl refl

pub returns-clause-flagged : goal.returns-clause-flagged
unfolding computes
returns-clause-flagged c = finds four_selected "a SEARCH FLAGGED" "a" false (flagged ∷ []) refl refl refl

pub returns-clause-unflagged : goal.returns-clause-unflagged
unfolding computes
returns-clause-unflagged c = finds four_selected "a SEARCH UNFLAGGED" "a" false (unflagged ∷ []) refl refl refl

pub returns-clause-seen : goal.returns-clause-seen
unfolding computes
returns-clause-seen c = finds four_selected "a SEARCH SEEN" "a" false (seen ∷ []) refl refl refl

pub returns-clause-unseen : goal.returns-clause-unseen
unfolding computes
returns-clause-unseen c = finds four_selected "a SEARCH UNSEEN" "a" false (unseen ∷ []) refl refl refl

pub returns-clause-keyword : goal.returns-clause-keyword
unfolding computes
returns-clause-keyword c = finds four_selected "a SEARCH KEYWORD Work" "a" false (keyword (Keyword (codes "Work")) ∷ []) refl refl refl

pub returns-clause-other_keyword : goal.returns-clause-other_keyword
unfolding computes
returns-clause-other_keyword c = finds four_selected "a SEARCH KEYWORD $Fwd" "a" false (keyword (Keyword (codes "$Fwd")) ∷ []) refl refl refl

pub returns-clause-keyword_case : goal.returns-clause-keyword_case
unfolding computes
returns-clause-keyword_case c = finds four_selected "a SEARCH KEYWORD work" "a" false (keyword (Keyword (codes "work")) ∷ []) refl refl refl

pub returns-clause-keyword_part : goal.returns-clause-keyword_part
unfolding computes
returns-clause-keyword_part c = finds four_selected "a SEARCH KEYWORD Wor" "a" false (keyword (Keyword (codes "Wor")) ∷ []) refl refl refl

pub returns-clause-unkeyword : goal.returns-clause-unkeyword
unfolding computes
returns-clause-unkeyword c = finds four_selected "a SEARCH UNKEYWORD Work" "a" false (unkeyword (Keyword (codes "Work")) ∷ []) refl refl refl

pub returns-clause-unkeyword_case : goal.returns-clause-unkeyword_case
unfolding computes
returns-clause-unkeyword_case c = finds four_selected "a SEARCH UNKEYWORD work" "a" false (unkeyword (Keyword (codes "work")) ∷ []) refl refl refl

pub returns-clause-any_case : goal.returns-clause-any_case
unfolding computes
returns-clause-any_case c = finds four_selected "a search unSeen" "a" false (unseen ∷ []) refl refl refl

pub returns-clause-read_only : goal.returns-clause-read_only
unfolding computes
returns-clause-read_only c = finds four_examined "a SEARCH SEEN" "a" false (seen ∷ []) refl refl refl

pub returns-clause-tag : goal.returns-clause-tag
unfolding computes
returns-clause-tag c = finds four_selected "A-1] SEARCH SEEN" "A-1]" false (seen ∷ []) refl refl refl
