-- A stretch of a literal, or a stretch of a line and the byte behind it.
use Rattle.std.proofs.Common.{◌+◌, take, ap, ◌∙◌, arith}
use Rattle.std.proofs.lemmas.List.{length-take-le}
use Rattle.std.proofs.lemmas.Result.{err_from_is_err_and}
use Rattle.imap_wire.specs.Begun.{state_of}
use Rattle.imap_wire.specs.Bulk.{credit}
use Rattle.imap_wire.proofs.TakeLaws.{Takes-silent, Takes-text}
use Rattle.imap_wire.proofs.TallyLaws.{fed-failed}
use Rattle.imap_wire.proofs.BulkLaws.{line-paid, account-paid}
use Rattle.imap_wire.proofs.begun.Begun.take_some.Goals as goal

pub returns-then-self-gt0-clause-takes : goal.returns-then-self-gt0-clause-takes
returns-then-self-gt0-clause-takes c = Takes-silent _ _ _ _ c.in_ok-take_literal.ensures.moves

pub returns-then-may_wait-clause-takes : goal.returns-then-may_wait-clause-takes
returns-then-may_wait-clause-takes c = Takes-silent _ _ _ _ c.in_ok-wait.ensures.moves

pub returns-then-taken-piece-clause-takes : goal.returns-then-taken-piece-clause-takes
returns-then-taken-piece-clause-takes c = Takes-silent _ _ _ _ (rw c.in_ok-make_line_room.ensures.state at c.take_text-taken.ensures.moves)

pub returns-in_err-take_byte-clause-memory : goal.returns-in_err-take_byte-clause-memory
returns-in_err-take_byte-clause-memory c =
    let is_err = err_from_is_err_and c.from_residual-in_err-take_byte.result c.from_residual-in_err-take_byte.ensures.1 in
    rw is_err.1
    (fed-failed c.args.self.now.kept.tally c.take_text-taken.new.self.kept.tally _ c.take_text-taken.result 1 _
    (rw c.make_line_room.ensures.tally at c.take_text-taken.ensures.tally) c.in_err-take_byte.ensures.memory (omega arith))

pub returns-clause-takes : goal.returns-clause-takes
returns-clause-takes c =
    Takes-text (state_of c.args.self.now) (state_of c.take_text-taken.new.self) _ c.args.piece.now _ c.take_text-taken.result (omega arith)
    (rw c.in_ok-make_line_room.ensures.state at c.take_text-taken.ensures.moves) c.in_ok-take_byte.ensures.frame c.in_ok-take_byte.ensures.after

pub returns-clause-paid : goal.returns-clause-paid
returns-clause-paid c = λ none within.
    let size = length-take-le (c.take_text-taken.result + 1) c.args.piece.now (omega arith) in
    account-paid c.args.self.now c.take_byte.new.self (take (c.take_text-taken.result + 1) c.args.piece.now)
    (omega (arith, rw none at c.in_ok-take_byte.ensures.count))
    (omega (arith, size, c.in_ok-make_line_room.ensures.filled, c.in_ok-take_byte.ensures.filled none))
    (line-paid (state_of c.args.self.now) (state_of c.take_text-taken.new.self) (state_of c.take_byte.new.self) c.args.piece.now _ c.take_text-taken.result
    (rw c.in_ok-make_line_room.ensures.state at c.take_text-taken.ensures.moves) c.take_text-taken.ensures.going c.take_text-taken.ensures.in_line
    (c.take_text-taken.ensures.credit ∙ ap credit c.in_ok-make_line_room.ensures.state) (omega arith) (c.take_text-taken.ensures.bulk (omega arith))
    c.in_ok-take_byte.ensures.frame c.in_ok-take_byte.ensures.after none)
