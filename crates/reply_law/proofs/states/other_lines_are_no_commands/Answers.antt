use Rattle.std.proofs.Common.{refl}
use Rattle.reply_law.proofs.Computes.{computes}
use Rattle.reply_law.proofs.states.other_lines_are_no_commands.Goals as goal

pub returns-clause-empty : goal.returns-clause-empty
unfolding computes
returns-clause-empty c = refl

pub returns-clause-tag_alone : goal.returns-clause-tag_alone
unfolding computes
returns-clause-tag_alone c = refl

pub returns-clause-other_name : goal.returns-clause-other_name
unfolding computes
returns-clause-other_name c = refl

pub returns-clause-more : goal.returns-clause-more
unfolding computes
returns-clause-more c = refl

pub returns-clause-two_spaces : goal.returns-clause-two_spaces
unfolding computes
returns-clause-two_spaces c = refl

pub returns-clause-bad_tag : goal.returns-clause-bad_tag
unfolding computes
returns-clause-bad_tag c = refl

pub returns-clause-goes_on : goal.returns-clause-goes_on
unfolding computes
returns-clause-goes_on c = refl
