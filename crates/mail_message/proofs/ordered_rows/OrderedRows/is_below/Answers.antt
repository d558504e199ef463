use Rattle.std.proofs.Common.{sym, arith}
use Rattle.std.proofs.lemmas.Bool.{ltb-true}
use Rattle.std.proofs.lemmas.Bool.Decides.{nat_tests}
use Rattle.mail_message.proofs.RowLaws.{above-last, last-above}
use Rattle.mail_message.proofs.ordered_rows.OrderedRows.is_below.Goals as goal

pub returns-in-Some : goal.returns-in-Some
returns-in-Some c =
    let at = sym (rw (c.as_slice.ensures, c.self.view_is) at c.in-Some.ensures.value) in
    let rising = rw c.self.view_is at c.self.invariant.rising in (
      λ lt. above-last c.args.self.now c.in-Some.row.now c.args.uid rising at (ltb-true _ _ lt),
      λ above. let lt = last-above c.args.self.now c.in-Some.row.now c.args.uid at above in grind (arith, nat_tests, lt),
    )
