use Rattle.mail_fetch.proofs.PartLaws.{dated, date_is_part}
use Rattle.mail_fetch.proofs.item_text.date_part.Goals as goal

pub returns-clause-part : goal.returns-clause-part
returns-clause-part c =
    let date = dated c.args.date c.args.date (rw c.as_bytes.ensures.text at c.as_bytes.ensures.date) in
    rw (c.in_ok-put_date.ensures, c.new-text.ensures, c.as_bytes.ensures.text) (date_is_part c.args.date date)
