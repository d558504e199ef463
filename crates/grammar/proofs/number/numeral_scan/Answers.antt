use Rattle.grammar.proofs.NumberSteps.{numeral_halts, numeral_more}
use Rattle.grammar.proofs.number.numeral_scan.Goals as goal

pub returns-in-None-clause-halts : goal.returns-in-None-clause-halts
returns-in-None-clause-halts c =
    let inv = c.loop-i.invariant in
    numeral_halts c.args.zeros c.args.most c.args.bytes.now c.loop-i.i c.loop-i.number c.loop-i-test.true
    inv.value inv.begins inv.scanned c.in-None.ensures

pub loop-i-preserved : goal.loop-i-preserved
loop-i-preserved c =
    let inv = c.loop-i.invariant in
    numeral_more c.args.zeros c.args.most c.args.bytes.now c.loop-i.i c.loop-i.number c.loop-i-test.true
    inv.value inv.begins inv.scanned c.in-Some.next c.in-Some.ensures.0 c.in-Some.ensures.1
