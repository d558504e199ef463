use Rattle.std.proofs.Common.{ap, arith}
use Rattle.std.proofs.lemmas.Bool.{leb-true}
use Rattle.mail_message.specs.declared.message.Row.{Row}
use Rattle.mail_message.proofs.RowLaws.{rising-from}
use Rattle.mail_message.proofs.ordered_rows.are_from.Goals as goal

pub returns-in-Some : goal.returns-in-Some
returns-in-Some c from k d above within =
    let found = ap (λ (row : Row). row.uid) (c.in-Some.ensures.lookup.3.1 d) in
    let rising = rising-from c.args.rows.now c.requires c.args.place k d above within in
    omega (arith, found, rising, leb-true _ _ from)
