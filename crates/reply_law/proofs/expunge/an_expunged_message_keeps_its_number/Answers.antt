use Rattle.std.proofs.Common.{refl}
use Rattle.reply_law.proofs.Computes.{computes}
use Rattle.reply_law.proofs.expunge.an_expunged_message_keeps_its_number.Goals as goal

pub returns : goal.returns
unfolding computes
returns c = refl
