use Rattle.std.proofs.Common.{refl}
use Rattle.reply_law.proofs.Computes.{computes}
use Rattle.reply_law.proofs.search.other_keys_are_no_keys.Goals as goal

pub returns-clause-new : goal.returns-clause-new
unfolding computes
returns-clause-new c = refl

pub returns-clause-old : goal.returns-clause-old
unfolding computes
returns-clause-old c = refl

pub returns-clause-recent : goal.returns-clause-recent
unfolding computes
returns-clause-recent c = refl

pub returns-clause-sent_before : goal.returns-clause-sent_before
unfolding computes
returns-clause-sent_before c = refl

pub returns-clause-sent_on : goal.returns-clause-sent_on
unfolding computes
returns-clause-sent_on c = refl

pub returns-clause-sent_since : goal.returns-clause-sent_since
unfolding computes
returns-clause-sent_since c = refl

pub returns-clause-bcc : goal.returns-clause-bcc
unfolding computes
returns-clause-bcc c = refl

pub returns-clause-body : goal.returns-clause-body
unfolding computes
returns-clause-body c = refl

pub returns-clause-cc : goal.returns-clause-cc
unfolding computes
returns-clause-cc c = refl

pub returns-clause-from : goal.returns-clause-from
unfolding computes
returns-clause-from c = refl

pub returns-clause-header : goal.returns-clause-header
unfolding computes
returns-clause-header c = refl

pub returns-clause-subject : goal.returns-clause-subject
unfolding computes
returns-clause-subject c = refl

pub returns-clause-text : goal.returns-clause-text
unfolding computes
returns-clause-text c = refl

pub returns-clause-to : goal.returns-clause-to
unfolding computes
returns-clause-to c = refl

pub returns-clause-behind_a_key : goal.returns-clause-behind_a_key
unfolding computes
returns-clause-behind_a_key c = refl

pub returns-clause-negated : goal.returns-clause-negated
unfolding computes
returns-clause-negated c = refl

pub returns-clause-by_uid : goal.returns-clause-by_uid
unfolding computes
returns-clause-by_uid c = refl

pub returns-clause-no_key : goal.returns-clause-no_key
unfolding computes
returns-clause-no_key c = refl

pub returns-clause-no_key_behind_space : goal.returns-clause-no_key_behind_space
unfolding computes
returns-clause-no_key_behind_space c = refl

pub returns-clause-two_spaces : goal.returns-clause-two_spaces
unfolding computes
returns-clause-two_spaces c = refl

pub returns-clause-no_group : goal.returns-clause-no_group
unfolding computes
returns-clause-no_group c = refl

pub returns-clause-open_group : goal.returns-clause-open_group
unfolding computes
returns-clause-open_group c = refl

pub returns-clause-not_alone : goal.returns-clause-not_alone
unfolding computes
returns-clause-not_alone c = refl

pub returns-clause-or_of_one : goal.returns-clause-or_of_one
unfolding computes
returns-clause-or_of_one c = refl

pub returns-clause-longer_name : goal.returns-clause-longer_name
unfolding computes
returns-clause-longer_name c = refl

pub returns-clause-system_keyword : goal.returns-clause-system_keyword
unfolding computes
returns-clause-system_keyword c = refl

pub returns-clause-no_size : goal.returns-clause-no_size
unfolding computes
returns-clause-no_size c = refl

pub returns-clause-charset : goal.returns-clause-charset
unfolding computes
returns-clause-charset c = refl

pub returns-clause-return_min : goal.returns-clause-return_min
unfolding computes
returns-clause-return_min c = refl

pub returns-clause-return_count : goal.returns-clause-return_count
unfolding computes
returns-clause-return_count c = refl

pub returns-clause-return_alone : goal.returns-clause-return_alone
unfolding computes
returns-clause-return_alone c = refl
