use Rattle.mail_fetch.proofs.PartLaws.{size_is_part}
use Rattle.mail_fetch.proofs.item_text.size_part.Goals as goal

pub returns-clause-part : goal.returns-clause-part
returns-clause-part c = rw (c.in_ok-put_size.ensures, c.new-text.ensures) (size_is_part c.args.size)
