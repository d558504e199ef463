-- The bytes of a literal go in all at once.
use Rattle.std.proofs.Common.{take, arith}
use Rattle.imap_wire.specs.Begun.{line_front}
use Rattle.imap_wire.specs.Front.{back_at}
use Rattle.imap_wire.proofs.MoveLaws.{Moves-literal, kept-literal}
use Rattle.imap_wire.proofs.begun.Begun.take_literal.Goals as goal

pub returns-clause-moves : goal.returns-clause-moves
returns-clause-moves c =
    Moves-literal _ _ _ _ c.requires.going (omega arith) (omega arith)
    (kept-literal _ _ _ (line_front c.args.self.now) c.args.self.now.kept.last.bytes.items _ (take c.min-taken.result c.args.piece.now) (back_at c.args.self.now.front_len c.args.self.now.line_at)
    _ _ _ _ _ _ c.requires.left c.in_ok-make_room.ensures.bytes c.keep.ensures.bytes c.len-self.ensures)
