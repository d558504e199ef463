use Rattle.std.proofs.Common.{sym}
use Rattle.text_parts.proofs.NameSteps.{names_halt, names_more}
use Rattle.text_parts.proofs.names.NamesFromKind.scanned_len.Goals as goal

pub returns-in-None-clause-halts : goal.returns-in-None-clause-halts
returns-in-None-clause-halts c =
    let inv = c.loop-i.invariant in
    names_halt c.args.self.now.is_sized c.args.self.now.start c.loop-i.level c.args.bytes.now c.loop-i.i c.loop-i-test.true inv.at inv.scanned (sym c.in-None.ensures)

pub loop-i-preserved : goal.loop-i-preserved
loop-i-preserved c =
    let inv = c.loop-i.invariant in
    names_more c.args.self.now.is_sized c.args.self.now.start c.loop-i.level c.args.bytes.now c.loop-i.i c.loop-i-test.true inv.at inv.scanned
    c.in-Some.next (sym c.in-Some.ensures)
