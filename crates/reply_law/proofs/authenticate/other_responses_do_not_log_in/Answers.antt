use Rattle.std.proofs.Common.{refl}
use Rattle.reply_law.proofs.Computes.{computes}
use Rattle.reply_law.proofs.authenticate.other_responses_do_not_log_in.Goals as goal

pub returns-clause-password : goal.returns-clause-password
unfolding computes
returns-clause-password c = refl

pub returns-clause-other_name : goal.returns-clause-other_name
unfolding computes
returns-clause-other_name c = refl

pub returns-clause-two_texts : goal.returns-clause-two_texts
unfolding computes
returns-clause-two_texts c = refl

pub returns-clause-no_text : goal.returns-clause-no_text
unfolding computes
returns-clause-no_text c = refl

pub returns-clause-for_urls : goal.returns-clause-for_urls
unfolding computes
returns-clause-for_urls c = refl

pub returns-clause-cut_short : goal.returns-clause-cut_short
unfolding computes
returns-clause-cut_short c = refl

pub returns-clause-not_begun : goal.returns-clause-not_begun
unfolding computes
returns-clause-not_begun c = refl

pub returns-clause-given_up : goal.returns-clause-given_up
unfolding computes
returns-clause-given_up c = refl

pub returns-clause-begun : goal.returns-clause-begun
unfolding computes
returns-clause-begun c = refl

pub returns-clause-begun_without : goal.returns-clause-begun_without
unfolding computes
returns-clause-begun_without c = refl
