use Rattle.mail_delta.proofs.SpanLaws.{remembers-new, remembers-others}
use Rattle.mail_delta.proofs.laws.a_mark_has_the_rows_of_its_moment.Goals as goal

pub returns : goal.returns
returns c = record { new = remembers-new; others = remembers-others }
