-- The bytes of a line go in all at once, up to its LF.
use Rattle.std.proofs.Common.{◌∙◌, length, take, ap, arith}
use Rattle.imap_wire.specs.Begun.{line_front}
use Rattle.imap_wire.specs.Front.{front_of, back_at}
use Rattle.imap_wire.specs.Kept.{joined}
use Rattle.imap_wire.proofs.MoveLaws.{Moves-text, IsFirstByte-within, kept-text}
use Rattle.imap_wire.proofs.begun.Begun.take_text.Goals as goal

pub returns-clause-moves : goal.returns-clause-moves
returns-clause-moves c =
    let it = c.args.self.now in
    let found = IsFirstByte-within c.args.piece.now c.find_lf-found.result c.find_lf-found.ensures.found in
    Moves-text _ _ _ _ _ c.requires.going c.requires.in_line c.find_lf-found.ensures.found (omega arith) (omega (arith, found))
    (λ some. omega (arith, c.line_len.ensures))
    (kept-text (joined it.kept.full.items it.kept.last) (joined c.keep.new.self.full.items c.keep.new.self.last) (line_front it)
    (front_of it.front_len it.line_at c.keep.new.self.full.items) it.kept.last.bytes.items c.keep.new.self.last.bytes.items
    (take c.min-taken.result c.args.piece.now) (back_at it.front_len it.line_at) it.line_room it.literal_room it.literal_left it.spent c.requires.in_line
    (rw c.find_lf-found.ensures.bytes at c.keep.ensures.bytes)
    (ap (front_of it.front_len it.line_at) (c.keep.ensures.full ∙ c.find_lf-found.ensures.full))
    (rw c.find_lf-found.ensures.last at c.keep.ensures.last) it.line_within)
