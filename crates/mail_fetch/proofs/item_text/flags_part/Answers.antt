use Rattle.mail_fetch.proofs.PartLaws.{flags_is_part}
use Rattle.mail_fetch.proofs.item_text.flags_part.Goals as goal

pub returns-clause-part : goal.returns-clause-part
returns-clause-part c ruled = rw (c.in_ok-put_flags.ensures, c.new-text.ensures) (flags_is_part c.args.flags.now ruled)
