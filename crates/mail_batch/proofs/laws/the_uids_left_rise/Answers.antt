use Rattle.mail_batch.proofs.TransferLaw.{keeps-order}
use Rattle.mail_batch.proofs.laws.the_uids_left_rise.Goals as goal

pub returns : goal.returns
returns c = keeps-order
