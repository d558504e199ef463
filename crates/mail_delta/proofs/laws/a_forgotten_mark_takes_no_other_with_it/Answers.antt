use Rattle.mail_delta.proofs.SpanLaws.{gone-forgotten, remembers-forgotten}
use Rattle.mail_delta.proofs.laws.a_forgotten_mark_takes_no_other_with_it.Goals as goal

pub returns : goal.returns
returns c = record { gone = gone-forgotten; others = remembers-forgotten }
