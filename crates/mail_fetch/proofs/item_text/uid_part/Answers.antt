use Rattle.mail_fetch.proofs.PartLaws.{uid_is_part}
use Rattle.mail_fetch.proofs.item_text.uid_part.Goals as goal

pub returns-clause-part : goal.returns-clause-part
returns-clause-part c = rw (c.in_ok-put_uid.ensures, c.new-text.ensures) (uid_is_part c.args.uid)
