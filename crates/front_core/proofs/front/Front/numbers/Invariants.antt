use Rattle.std.proofs.Common.{◌≡◌, ◌++◌}
use Rattle.std.specs.Map.{keys_of}
use Rattle.front_core.proofs.front.Front.numbers.Given as goal

abbrev pub invariant-loop-conn : goal.invariant-loop-conn
invariant-loop-conn l = l.conns.items ++ keys_of l.conn-iterator ≡ keys_of l.self.connections
