use Rattle.std.proofs.Common.{◌∙◌, ◌+◌, ◌<◌, ◌^◌, ap, sym, subst, arith}
use Rattle.std.specs.List.{position_from}
use Rattle.std.specs.Option.{IfSome}
use Rattle.mail_message.specs.RowOrder.{is_row_of, place_if_row_of}
use Rattle.mail_message.proofs.NextRows.{numbered}
use Rattle.mail_message.proofs.RowLaws.{place-placed, place-numbered}
use Rattle.mail_message.proofs.ordered_rows.OrderedRows.place.Goals as goal

pub returns-clause-place : goal.returns-clause-place
returns-clause-place c =
    c.place_if_row_of.ensures ∙ ap (place_if_row_of c.args.uid c.place_of.result) c.get.ensures
    ∙ place-placed c.self.inside.rows c.args.uid c.place_of.result 0 c.place_of.result (omega arith) c.self.invariant.rising
    (rw c.as_slice.ensures at c.place_of.ensures)
    ∙ ap (λ rows. position_from (is_row_of c.args.uid) 0 rows) c.self.view_is

pub returns-clause-numbers : goal.returns-clause-numbers
returns-clause-numbers c =
    let room = rw c.self.view_is at (numbered c.self.inside.rows c.self.invariant.rising c.self.invariant.next) in
    subst (λ found. IfSome found (λ place. place + 1 < 2 ^ 32)) (sym (returns-clause-place c)) (place-numbered (is_row_of c.args.uid) c.args.self.now room)
