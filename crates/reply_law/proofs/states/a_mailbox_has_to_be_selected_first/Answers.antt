use Rattle.std.proofs.Common.{refl}
use Rattle.reply_law.proofs.Computes.{computes}
use Rattle.reply_law.proofs.states.a_mailbox_has_to_be_selected_first.Goals as goal

pub returns-clause-close : goal.returns-clause-close
unfolding computes
returns-clause-close c = refl

pub returns-clause-unselect : goal.returns-clause-unselect
unfolding computes
returns-clause-unselect c = refl

pub returns-clause-expunge : goal.returns-clause-expunge
unfolding computes
returns-clause-expunge c = refl

pub returns-clause-uid_expunge : goal.returns-clause-uid_expunge
unfolding computes
returns-clause-uid_expunge c = refl

pub returns-clause-search : goal.returns-clause-search
unfolding computes
returns-clause-search c = refl

pub returns-clause-fetch : goal.returns-clause-fetch
unfolding computes
returns-clause-fetch c = refl

pub returns-clause-uid_fetch : goal.returns-clause-uid_fetch
unfolding computes
returns-clause-uid_fetch c = refl

pub returns-clause-store : goal.returns-clause-store
unfolding computes
returns-clause-store c = refl

pub returns-clause-search_above : goal.returns-clause-search_above
unfolding computes
returns-clause-search_above c = refl

pub returns-clause-uid_search : goal.returns-clause-uid_search
unfolding computes
returns-clause-uid_search c = refl
