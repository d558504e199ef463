use Rattle.mail_delta.proofs.SpanLaws.{remembers-noted, is_noted-noted, is_noted-stays}
use Rattle.mail_delta.proofs.laws.a_note_changes_no_mark.Goals as goal

pub returns : goal.returns
returns c = record { same = remembers-noted; noted = is_noted-noted; others = is_noted-stays }
