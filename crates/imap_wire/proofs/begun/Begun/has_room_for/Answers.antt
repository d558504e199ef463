-- A CR at the end isn't counted.
use Rattle.std.proofs.Common.{arith}
use Rattle.std.proofs.lemmas.Bool.Decides.{nat_tests}
use Rattle.imap_wire.specs.Begun.{present_line}
use Rattle.imap_wire.proofs.LineLaws.{least_length-cr, least_length-other}
use Rattle.imap_wire.proofs.begun.Begun.has_room_for.Goals as goal

pub returns-then-byte-eq13 : goal.returns-then-byte-eq13
returns-then-byte-eq13 c =
    rw (c.if-byte-eq13.true, least_length-cr (present_line c.args.self.now), c.line_len-length.ensures)
    ((λ test. grind (arith, nat_tests)), (λ fits. grind (arith, nat_tests)))

pub returns-else-byte-eq13 : goal.returns-else-byte-eq13
returns-else-byte-eq13 c =
    rw (least_length-other (present_line c.args.self.now) c.args.byte c.if-byte-eq13.false, c.line_len-length.ensures)
    ((λ test. grind (arith, nat_tests)), (λ fits. grind (arith, nat_tests)))
