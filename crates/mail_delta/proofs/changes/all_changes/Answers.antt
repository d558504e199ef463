use Rattle.std.proofs.Common.{refl}
use Rattle.mail_delta.proofs.DeltaLaw.{all-told}
use Rattle.mail_delta.proofs.changes.all_changes.Goals as goal

pub returns : goal.returns
returns c = all-told c.in_ok-seen.seen c.args.now.now c.in_ok-seen.seen.rows c.new.result c.in_ok-seen.ensures.value refl c.new.ensures
