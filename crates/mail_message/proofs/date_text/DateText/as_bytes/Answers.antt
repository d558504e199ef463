use Rattle.std.proofs.Common.{refl}
use Rattle.mail_message.specs.Date.{date_of}
use Rattle.mail_message.proofs.date_text.DateText.as_bytes.Goals as goal

pub returns-clause-date : goal.returns-clause-date
unfolding date_of
returns-clause-date c = rw (c.self.invariant, c.self.view_is) refl
