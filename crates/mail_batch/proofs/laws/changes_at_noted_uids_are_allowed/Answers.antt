use Rattle.mail_batch.proofs.AllowedLaws.{allowed-carries_out}
use Rattle.mail_batch.proofs.laws.changes_at_noted_uids_are_allowed.Goals as goal

pub returns : goal.returns
returns c = allowed-carries_out
