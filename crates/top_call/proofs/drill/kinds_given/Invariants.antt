use Rattle.std.proofs.Common.{◌≡◌, ◌++◌}
use Rattle.std.specs.List.{flat_map}
use Rattle.top_call.specs.Drill.{client_kinds}
use Rattle.top_call.proofs.drill.kinds_given.Given as goal

abbrev pub invariant-loop-client : goal.invariant-loop-client
invariant-loop-client l = l.kinds ++ flat_map client_kinds l.client-iterator ≡ flat_map client_kinds l.clients
