use Rattle.std.proofs.Common.{false, [], ◌∷◌, refl}
use Rattle.reply_law.proofs.Computes.{computes}
use Rattle.reply_law.proofs.Searches.{works}
use Rattle.reply_law.proofs.SearchViews.{replaced_selected}
use Rattle.reply_law.proofs.Sought.{all}
use Rattle.reply_law.proofs.news.another_mailbox_is_not_taken_for_it.Goals as goal

pub returns-clause-noop : goal.returns-clause-noop
unfolding computes
returns-clause-noop c = refl

pub returns-clause-fetch : goal.returns-clause-fetch
unfolding computes
returns-clause-fetch c = refl

pub returns-clause-store : goal.returns-clause-store
unfolding computes
returns-clause-store c = refl

pub returns-clause-expunge : goal.returns-clause-expunge
unfolding computes
returns-clause-expunge c = refl

pub returns-clause-close : goal.returns-clause-close
unfolding computes
returns-clause-close c = refl

pub returns-clause-unselect : goal.returns-clause-unselect
unfolding computes
returns-clause-unselect c = refl

pub returns-clause-search : goal.returns-clause-search
unfolding computes
returns-clause-search c = works replaced_selected "a SEARCH ALL" "a" false (all ∷ []) refl refl refl
