-- Only a CR may stand past the limit.
use Rattle.std.proofs.Common.{◌≡◌, ◌+◌, ◌-◌, ◌≤◌, ◌∷◌, ◌++◌, [], length, refl, ap, arith, length-append, length-drop}
use Rattle.imap_wire.specs.Begun.{present_line, line_front, line_back}
use Rattle.imap_wire.specs.Front.{back_at}
use Rattle.imap_wire.specs.Line.{least_length}
use Rattle.imap_wire.proofs.LineLaws.{least_length-ge}
use Rattle.imap_wire.proofs.begun.Begun.take_text_byte.Goals as goal

pub invariant_of-self-2-clause-line_short : goal.invariant_of-self-2-clause-line_short
invariant_of-self-2-clause-line_short c =
    let begun = c.args.self.now in
    let line = present_line begun in
    let at = back_at begun.front_len begun.line_at in
    let size : length line ≡ begun.front_len + (length begun.kept.last.bytes.items - at) =
    rw c.requires.in_line
    (omega (arith, length-append (line_front begun) (line_back begun), length-drop at begun.kept.last.bytes.items, begun.front_is)) in
    let fits : least_length (line ++ c.args.byte ∷ []) ≤ begun.line_room = c.if-not-has_room_for.ensures.0 refl in
    omega (
      arith,
      size,
      fits,
      least_length-ge (line ++ c.args.byte ∷ []),
      length-append line (c.args.byte ∷ []),
      ap length c.keep.ensures.last,
      length-append begun.kept.last.bytes.items (c.args.byte ∷ []),
    )

pub invariant_of-self-2-clause-front_plain : goal.invariant_of-self-2-clause-front_plain
invariant_of-self-2-clause-front_plain c = rw c.keep.ensures.full c.args.self.now.front_plain
