-- Piece by piece.
use Rattle.std.proofs.Common.{◌∙◌, sym, take, arith}
use Rattle.std.specs.List.{concat}
use Rattle.imap_wire.proofs.FeedLaws.{frames-nil, concat-more}
use Rattle.imap_wire.proofs.framer.frames.Goals as goal

pub loop-piece-init : goal.loop-piece-init
loop-piece-init c = record { held = sym c.new-framer.ensures.begun; frames = c.new-frames.ensures ∙ frames-nil }

pub loop-piece-preserved : goal.loop-piece-preserved
loop-piece-preserved c =
    let past = concat (take c.loop-piece.piece-index c.args.pieces.now) in
    let joined = concat-more c.args.pieces.now c.loop-piece.piece-index c.piece-item.result (omega arith) c.piece-item.is in
    let piece = c.as_slice.ensures in
    record {
      held = rw (joined, ← piece) (c.in_ok-feed_all.ensures.after past c.loop-piece.invariant.held);
      frames = rw (joined, ← piece) (c.in_ok-feed_all.ensures.frames past c.loop-piece.invariant.held c.loop-piece.invariant.frames);
    }
