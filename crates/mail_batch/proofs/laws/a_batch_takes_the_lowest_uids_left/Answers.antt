use Rattle.mail_batch.proofs.BatchFront.{batch-front}
use Rattle.mail_batch.proofs.laws.a_batch_takes_the_lowest_uids_left.Goals as goal

pub returns : goal.returns
returns c = batch-front
