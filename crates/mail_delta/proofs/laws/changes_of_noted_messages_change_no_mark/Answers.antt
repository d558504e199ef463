use Rattle.mail_delta.proofs.SpanLaws.{remembers-changed}
use Rattle.mail_delta.proofs.laws.changes_of_noted_messages_change_no_mark.Goals as goal

pub returns : goal.returns
returns c = remembers-changed
