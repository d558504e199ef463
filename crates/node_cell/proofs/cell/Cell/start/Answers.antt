use Rattle.node_cell.proofs.LogLaws.{limited_first, replays_first, stamps_first}
use Rattle.node_cell.proofs.cell.Cell.start.Goals as goal

pub invariant_of-result : goal.invariant_of-result
invariant_of-result g c = record {
  replays = λ is. replays_first c.of-begun.result.value c.args.node c.new.result c.of-begun.ensures c.new.ensures;
  stamps = stamps_first c.new.result c.new.ensures;
  limited = limited_first c.args.name c.new.result c.new.ensures;
  stopped = λ is. cc;
  writes = λ is. c.requires;
}
