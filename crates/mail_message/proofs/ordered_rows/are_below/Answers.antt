use Rattle.std.proofs.Common.{◌-◌, ap, arith}
use Rattle.std.proofs.lemmas.Bool.{ltb-true}
use Rattle.mail_message.specs.declared.message.Row.{Row}
use Rattle.mail_message.proofs.RowLaws.{rising-from}
use Rattle.mail_message.proofs.ordered_rows.are_below.Goals as goal

pub returns-in-Some : goal.returns-in-Some
returns-in-Some c until k d from below =
    let found = c.in-Some.ensures.lookup.3 in
    let last = ap (λ (row : Row). row.uid) (found.1 d) in
    let rising = rising-from c.args.rows.now c.requires k (c.args.place - 1) d (omega (arith, below)) found.0 in
    omega (arith, last, rising, ltb-true _ _ until)
