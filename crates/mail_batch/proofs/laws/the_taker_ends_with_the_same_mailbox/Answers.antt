use Rattle.mail_batch.proofs.TransferLaw.{taker-has-all}
use Rattle.mail_batch.proofs.laws.the_taker_ends_with_the_same_mailbox.Goals as goal

pub returns : goal.returns
returns c = taker-has-all
