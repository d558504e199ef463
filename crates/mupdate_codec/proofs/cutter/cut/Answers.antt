use Rattle.std.proofs.Common.{take, arith}
use Rattle.std.specs.List.{concat}
use Rattle.mupdate_codec.proofs.CutSteps.{cut_nothing, pieces_more, concat-more}
use Rattle.mupdate_codec.proofs.cutter.cut.Goals as goal

pub loop-piece-init : goal.loop-piece-init
loop-piece-init c = rw (c.new-cutter.ensures, c.new-lines.ensures) cut_nothing

pub loop-piece-preserved : goal.loop-piece-preserved
loop-piece-preserved c =
    let past = concat (take c.loop-piece.piece-index c.args.pieces.now) in
    let joined = concat-more c.args.pieces.now c.loop-piece.piece-index c.piece-item.result (omega arith) c.piece-item.is in
    pieces_more past c.piece-item.result _ c.loop-piece.cutter _ c.loop-piece.lines _ joined c.loop-piece.invariant
    (rw c.as_slice.ensures at (c.in_ok-feed_all.ensures past))
