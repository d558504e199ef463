use Rattle.std.proofs.Common.{rules}
use Rattle.mur_edge.proofs.Known.{ReadGives-drop}
use Rattle.mur_edge.proofs.memory.source.MemSourceSource.read.Goals as goal

pub returns-else-n-gt0-clause-did : goal.returns-else-n-gt0-clause-did
returns-else-n-gt0-clause-did c = record {
  bytes = ReadGives-drop c.args.self.now.state.whole c.args.self.now.state.at c.fill-n.result c.fill-n.new.buf (search rules) (search rules);
  same = search rules;
  short = search rules;
  cause = search rules;
}
