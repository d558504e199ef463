-- The last byte says it.
use Rattle.std.proofs.Common.{◌-◌, length, arith}
use Rattle.std.proofs.lemmas.List.{get_or_past}
use Rattle.std.proofs.lemmas.Bool.Decides.{nat_tests}
use Rattle.imap_wire.specs.Begun.{line_back}
use Rattle.imap_wire.proofs.FirstLaws.{line-cr}
use Rattle.imap_wire.proofs.LineLaws.{ends_with_cr-is}
use Rattle.imap_wire.proofs.begun.Begun.ends_with_cr.Goals as goal

pub returns-in-13 : goal.returns-in-13
returns-in-13 c =
    rw (line-cr c.args.self.now c.requires, ends_with_cr-is (line_back c.args.self.now), ← c.line_back.ensures) (grind (arith, nat_tests))

pub returns-in_default : goal.returns-in_default
returns-in_default c =
    let past = get_or_past c.line_back.result.now (length c.line_back.result.now - 1) 0 (omega arith) in
    rw (line-cr c.args.self.now c.requires, ends_with_cr-is (line_back c.args.self.now), ← c.line_back.ensures) (grind (arith, nat_tests))

pub returns-in_default-2 : goal.returns-in_default-2
returns-in_default-2 c =
    rw (line-cr c.args.self.now c.requires, ends_with_cr-is (line_back c.args.self.now), ← c.line_back.ensures) (grind (arith, nat_tests))
