use Rattle.std.proofs.Common.{◌-◌, sym, subst, arith}
use Rattle.mupdate_codec.specs.Waits.{HasBegunLine}
use Rattle.mupdate_codec.proofs.CutSteps.{literal_taken}
use Rattle.mupdate_codec.proofs.cutter.Begun.take_literal.Goals as goal

pub returns-clause-holds : goal.returns-clause-holds
returns-clause-holds c =
    let left = c.args.self.now.literal_left in
    let taken = c.min-taken.result in
    subst (λ bytes. HasBegunLine bytes (left - taken)) (sym c.in_ok-extend_from_slice.ensures.ok)
    (literal_taken c.args.self.now.bytes c.args.piece.now left taken c.requires.holds c.requires.some (omega arith) (omega arith))
