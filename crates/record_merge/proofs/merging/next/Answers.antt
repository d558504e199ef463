use Rattle.std.proofs.Common.{true, false}
use Rattle.record_merge.proofs.NextLaws.{earlier-told, other-next, own-next, none-next}
use Rattle.record_merge.proofs.merging.next.Goals as goal

pub returns-then-is_earlier-clause-rest : goal.returns-then-is_earlier-clause-rest
returns-then-is_earlier-clause-rest g c =
    other-next c.pop.result c.args.first.now c.args.others.now c.pop.new.self
    (earlier-told c.args.first.now c.args.others.now _ _ c.is_earlier.result true c.first.ensures c.first-2.ensures c.is_earlier.ensures c.if-is_earlier.true)
    c.pop.ensures.empty c.pop.ensures.first

pub returns-else-is_earlier-clause-rest : goal.returns-else-is_earlier-clause-rest
returns-else-is_earlier-clause-rest g c =
    own-next c.pop-else-is_earlier.result c.args.first.now c.args.others.now c.pop-else-is_earlier.new.self
    (earlier-told c.args.first.now c.args.others.now _ _ c.is_earlier.result false c.first.ensures c.first-2.ensures c.is_earlier.ensures c.if-is_earlier.false)
    c.pop-else-is_earlier.ensures.empty c.pop-else-is_earlier.ensures.first

pub returns-else-is_earlier-clause-none : goal.returns-else-is_earlier-clause-none
returns-else-is_earlier-clause-none g c =
    none-next c.pop-else-is_earlier.result c.args.first.now c.args.others.now c.pop-else-is_earlier.new.self
    (earlier-told c.args.first.now c.args.others.now _ _ c.is_earlier.result false c.first.ensures c.first-2.ensures c.is_earlier.ensures c.if-is_earlier.false)
    c.pop-else-is_earlier.ensures.empty
