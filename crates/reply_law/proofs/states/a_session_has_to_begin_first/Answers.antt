use Rattle.std.proofs.Common.{refl}
use Rattle.reply_law.proofs.Computes.{computes}
use Rattle.reply_law.proofs.states.a_session_has_to_begin_first.Goals as goal

pub returns-clause-enable : goal.returns-clause-enable
unfolding computes
returns-clause-enable c = refl

pub returns-clause-select : goal.returns-clause-select
unfolding computes
returns-clause-select c = refl

pub returns-clause-examine : goal.returns-clause-examine
unfolding computes
returns-clause-examine c = refl

pub returns-clause-create : goal.returns-clause-create
unfolding computes
returns-clause-create c = refl

pub returns-clause-status : goal.returns-clause-status
unfolding computes
returns-clause-status c = refl

pub returns-clause-append : goal.returns-clause-append
unfolding computes
returns-clause-append c = refl

pub returns-clause-list : goal.returns-clause-list
unfolding computes
returns-clause-list c = refl

pub returns-clause-delete : goal.returns-clause-delete
unfolding computes
returns-clause-delete c = refl

pub returns-clause-rename : goal.returns-clause-rename
unfolding computes
returns-clause-rename c = refl

pub returns-clause-fetch : goal.returns-clause-fetch
unfolding computes
returns-clause-fetch c = refl

pub returns-clause-search : goal.returns-clause-search
unfolding computes
returns-clause-search c = refl

pub returns-clause-uid_search : goal.returns-clause-uid_search
unfolding computes
returns-clause-uid_search c = refl
