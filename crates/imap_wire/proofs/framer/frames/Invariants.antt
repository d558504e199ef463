use Rattle.std.proofs.Common.{◌≡◌, take}
use Rattle.std.specs.List.{concat}
use Rattle.imap_wire.specs.Frames.{frames, begun}
use Rattle.imap_wire.proofs.framer.frames.Given as goal

abbrev pub invariant-loop-piece : goal.invariant-loop-piece
invariant-loop-piece l = record {
  held : begun (concat (take l.piece-index l.pieces)) ≡ l.framer.begun;
  frames : l.frames ≡ frames (concat (take l.piece-index l.pieces));
}
