-- The piece goes in whole.
use Rattle.std.proofs.Common.{◌≡◌, ◌∙◌, length, refl, ap, arith, length-append}
use Rattle.imap_wire.specs.Begun.{line_front}
use Rattle.imap_wire.specs.Front.{front_of, back_at}
use Rattle.imap_wire.specs.Kept.{joined}
use Rattle.imap_wire.proofs.MoveLaws.{Moves-whole, kept-text}
use Rattle.imap_wire.proofs.PlainLaws.{plain-one_line}
use Rattle.imap_wire.proofs.FirstLaws.{rest-more, line-size}
use Rattle.imap_wire.proofs.begun.Begun.wait.Goals as goal

pub invariant_of-self-2-clause-front_is : goal.invariant_of-self-2-clause-front_is
invariant_of-self-2-clause-front_is c = rw c.requires.may.stands.whole refl

pub invariant_of-self-2-clause-front_plain : goal.invariant_of-self-2-clause-front_plain
invariant_of-self-2-clause-front_plain c = rw c.requires.may.stands.whole (λ k d within. absurd (omega arith))

pub invariant_of-self-2-clause-line_within : goal.invariant_of-self-2-clause-line_within
invariant_of-self-2-clause-line_within c =
    let before = c.args.self.now.line_within in
    omega (
      arith,
      before,
      ap length c.keep.ensures.last,
      ap length c.in_ok-make_first_room.ensures.bytes,
      length-append c.make_first_room.new.self.last.bytes.items c.args.piece.now,
    )

pub invariant_of-self-2-clause-line_short : goal.invariant_of-self-2-clause-line_short
invariant_of-self-2-clause-line_short c =
    let it = c.args.self.now in
    let within = c.requires.may.within in
    omega (
      arith,
      it.line_within,
      within,
      line-size it c.requires.in_line,
      ap length c.keep.ensures.last,
      ap length c.in_ok-make_first_room.ensures.bytes,
      length-append c.make_first_room.new.self.last.bytes.items c.args.piece.now,
    )

pub invariant_of-self-2-clause-line_fits : goal.invariant_of-self-2-clause-line_fits
invariant_of-self-2-clause-line_fits c = λ _ _.
    let it = c.args.self.now in (
      ap length (c.keep.ensures.full ∙ c.in_ok-make_first_room.ensures.full) ∙ c.requires.may.stands.first,
      rest-more it.line_at it.kept.last.bytes.items c.keep.new.self.last.bytes.items c.args.piece.now
          (rw c.requires.may.stands.whole at it.line_within) (rw c.in_ok-make_first_room.ensures.bytes at c.keep.ensures.last)
          c.requires.may.stands.line c.requires.may.plain,
    )

pub returns-clause-moves : goal.returns-clause-moves
returns-clause-moves c =
    let it = c.args.self.now in
    let mid = c.make_first_room.new.self in
    Moves-whole _ _ _ c.requires.going c.requires.in_line (plain-one_line c.args.piece.now c.requires.may.plain) c.requires.may.within
    (kept-text (joined it.kept.full.items it.kept.last) (joined c.keep.new.self.full.items c.keep.new.self.last) (line_front it)
    (front_of it.front_len it.line_at c.keep.new.self.full.items) it.kept.last.bytes.items c.keep.new.self.last.bytes.items c.args.piece.now
    (back_at it.front_len it.line_at) it.line_room it.literal_room it.literal_left it.spent c.requires.in_line
    (rw (c.in_ok-make_first_room.ensures.full, c.in_ok-make_first_room.ensures.bytes) at c.keep.ensures.bytes)
    (ap (front_of it.front_len it.line_at) (c.keep.ensures.full ∙ c.in_ok-make_first_room.ensures.full))
    (rw c.in_ok-make_first_room.ensures.bytes at c.keep.ensures.last) it.line_within)
