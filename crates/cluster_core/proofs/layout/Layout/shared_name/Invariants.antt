use Rattle.std.specs.Prelude.{⊤}
use Rattle.cluster_core.proofs.layout.Layout.shared_name.Given as goal

abbrev pub invariant-loop-name : goal.invariant-loop-name
invariant-loop-name l = ⊤
