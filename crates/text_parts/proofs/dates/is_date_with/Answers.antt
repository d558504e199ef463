use Rattle.text_parts.proofs.DatesLaw.{too_long, with_byte}
use Rattle.text_parts.proofs.dates.is_date_with.Goals as goal

pub returns-then-len-ge-DATE_LENGTH : goal.returns-then-len-ge-DATE_LENGTH
returns-then-len-ge-DATE_LENGTH c = too_long c.args.front.now c.args.sample.now c.args.byte c.if-len-ge-DATE_LENGTH.true

pub returns : goal.returns
returns c =
    with_byte c.args.front.now c.args.sample.now c.copy_from_slice.new.self c.args.byte c.is_date.result c.if-len-ge-DATE_LENGTH.false c.told-sample
    c.copy_from_slice.ensures.after c.is_date.ensures
