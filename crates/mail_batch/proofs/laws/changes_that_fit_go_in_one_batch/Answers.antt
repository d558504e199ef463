use Rattle.mail_batch.proofs.BatchFront.{fits-one-batch, none-after}
use Rattle.mail_batch.proofs.laws.changes_that_fit_go_in_one_batch.Goals as goal

pub returns : goal.returns
returns c = record { all = fits-one-batch; none = none-after }
