use Rattle.std.proofs.Common.{true, false, [], ◌∷◌, refl}
use Rattle.mail_message.specs.declared.set.SetEnd.TheVariants.{Number}
use Rattle.mail_message.specs.declared.set.SetPart.TheVariants.{One}
use Rattle.reply_law.specs.Talk.{one}
use Rattle.reply_law.proofs.Computes.{computes}
use Rattle.reply_law.proofs.Searches.{finds, finds_first, lacks_first}
use Rattle.reply_law.proofs.SearchViews.{changed_selected}
use Rattle.reply_law.proofs.Sought.{larger, numbers, uid, unseen}
use Rattle.reply_law.proofs.news.changes_are_told_in_order.Goals as goal

pub returns-clause-noop : goal.returns-clause-noop
unfolding computes
returns-clause-noop c = refl

pub returns-clause-fetch : goal.returns-clause-fetch
unfolding computes
returns-clause-fetch c = refl

pub returns-clause-fetch_gone : goal.returns-clause-fetch_gone
unfolding computes
returns-clause-fetch_gone c = refl

pub returns-clause-fetch_flags : goal.returns-clause-fetch_flags
unfolding computes
returns-clause-fetch_flags c = refl

pub returns-clause-uid_fetch : goal.returns-clause-uid_fetch
unfolding computes
returns-clause-uid_fetch c = refl

pub returns-clause-store : goal.returns-clause-store
unfolding computes
returns-clause-store c = refl

pub returns-clause-store_silent : goal.returns-clause-store_silent
unfolding computes
returns-clause-store_silent c = refl

pub returns-clause-uid_store : goal.returns-clause-uid_store
unfolding computes
returns-clause-uid_store c = refl

pub returns-clause-expunge : goal.returns-clause-expunge
unfolding computes
returns-clause-expunge c = refl

pub returns-clause-status : goal.returns-clause-status
unfolding computes
returns-clause-status c = refl

pub returns-clause-unselect : goal.returns-clause-unselect
unfolding computes
returns-clause-unselect c = refl

pub returns-clause-search : goal.returns-clause-search
unfolding computes
returns-clause-search c = finds_first changed_selected "a SEARCH UNSEEN" "a" false (unseen ∷ []) ((one, "b NOOP") ∷ []) refl refl refl

pub returns-clause-search_new : goal.returns-clause-search_new
unfolding computes
returns-clause-search_new c = finds changed_selected "a SEARCH UID 12" "a" false (uid (One (Number 12) ∷ []) ∷ []) refl refl refl

pub returns-clause-search_above : goal.returns-clause-search_above
unfolding computes
returns-clause-search_above c =
    lacks_first changed_selected.views "a SEARCH 5" "a" false (numbers (One (Number 5) ∷ []) ∷ []) ((one, "b NOOP") ∷ []) refl refl refl

pub returns-clause-uid_search : goal.returns-clause-uid_search
unfolding computes
returns-clause-uid_search c = finds_first changed_selected "a UID SEARCH LARGER 0" "a" true (larger 0 ∷ []) ((one, "b NOOP") ∷ []) refl refl refl
