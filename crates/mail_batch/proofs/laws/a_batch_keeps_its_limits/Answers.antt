use Rattle.mail_batch.proofs.BatchFront.{few-batch, some-batch, light-one}
use Rattle.mail_batch.proofs.laws.a_batch_keeps_its_limits.Goals as goal

pub returns : goal.returns
returns c = record { few = few-batch; some = some-batch; light = light-one }
