use Rattle.mail_batch.proofs.TransferLaw.{taker-will-have-all}
use Rattle.mail_batch.proofs.laws.the_changes_left_complete_the_taker.Goals as goal

pub returns : goal.returns
returns c = taker-will-have-all
