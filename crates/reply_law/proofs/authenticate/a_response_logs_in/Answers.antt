use Rattle.std.proofs.Common.{refl}
use Rattle.reply_law.proofs.Computes.{computes}
use Rattle.reply_law.proofs.authenticate.a_response_logs_in.Goals as goal

pub returns-clause-at_once : goal.returns-clause-at_once
unfolding computes
returns-clause-at_once c = refl

pub returns-clause-any_case : goal.returns-clause-any_case
unfolding computes
returns-clause-any_case c = refl

pub returns-clause-in_two : goal.returns-clause-in_two
unfolding computes
returns-clause-in_two c = refl

pub returns-clause-same_name : goal.returns-clause-same_name
unfolding computes
returns-clause-same_name c = refl

pub returns-clause-standard : goal.returns-clause-standard
unfolding computes
returns-clause-standard c = refl

pub returns-clause-by_bob : goal.returns-clause-by_bob
unfolding computes
returns-clause-by_bob c = refl
