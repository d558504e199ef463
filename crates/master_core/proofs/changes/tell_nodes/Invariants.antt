use Rattle.std.proofs.Common.{◌≡◌, ◌++◌, map}
use Rattle.master_core.specs.Changes.{node_told}
use Rattle.master_core.proofs.changes.tell_nodes.Given as goal

-- the streams told so far, and those to come
abbrev pub invariant-loop-node : goal.invariant-loop-node
invariant-loop-node l = l.outs ++ map (node_told l.line) l.node-iterator ≡ l.initial.outs ++ map (node_told l.line) l.streams
