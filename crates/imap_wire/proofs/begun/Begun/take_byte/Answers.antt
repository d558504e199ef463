-- What isn't LF behind CR ends no line.
use Rattle.std.proofs.Common.{◌≡◌, ◌&&◌, ◌==◌, false, sym, arith}
use Rattle.std.proofs.lemmas.Bool.Decides.{nat_tests}
use Rattle.std.proofs.lemmas.Bool.{and_left, and_right}
use Rattle.imap_wire.specs.Begun.{present_line, state_of}
use Rattle.mur_base.specs.Ascii.{ends_with_cr}
use Rattle.imap_wire.proofs.StepLaws.{step-line}
use Rattle.imap_wire.proofs.begun.Begun.take_byte.Goals as goal
use Rattle.imap_wire.proofs.begun.Begun.take_byte.Goals.{else-byte-eq10-via-then-byte-eq10+else-ends_with_cr, else-byte-eq10-via-else-byte-eq10}

goes_on : (c : goal.After-take_text_byte) → (c.args.byte == 10 && ends_with_cr (present_line c.args.self.now)) ≡ false
goes_on c = elim c.else-byte-eq10.branch [
  | else-byte-eq10-via-then-byte-eq10+else-ends_with_cr w ↦ and_right (c.args.byte == 10) (ends_with_cr (present_line c.args.self.now))
      (sym w.if-ends_with_cr.ensures)
  | else-byte-eq10-via-else-byte-eq10 w ↦ and_left (c.args.byte == 10) (ends_with_cr (present_line c.args.self.now)) (grind (arith, nat_tests))
]

pub returns-else-byte-eq10-clause-frame : goal.returns-else-byte-eq10-clause-frame
returns-else-byte-eq10-clause-frame c =
    rw (step-line (state_of c.args.self.now) c.args.byte c.requires.going c.requires.in_line (goes_on c)) c.take_text_byte.ensures.frame

pub returns-else-byte-eq10-clause-after : goal.returns-else-byte-eq10-clause-after
returns-else-byte-eq10-clause-after c =
    rw (step-line (state_of c.args.self.now) c.args.byte c.requires.going c.requires.in_line (goes_on c)) c.take_text_byte.ensures.after
