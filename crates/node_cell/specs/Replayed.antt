-- The replay of a node's log: its state, and the entries that it writes, after the inputs of the log.
use Rattle.std.specs.Prelude.{ℕ, List, [], ◌∷◌, ◌++◌}
use Rattle.std.specs.Option.{option_to_list}
use Rattle.node_step.specs.declared.input.NodeInput.{NodeInput}
use Rattle.node_step.specs.declared.node.NodeState.{NodeState}
use Rattle.node_step.specs.NodeStep.{takes}
use Rattle.record_merge.specs.declared.logged.Logged.{Logged}

abbrev pub state_after : NodeState → List (Logged NodeInput) → NodeState
state_after node [] = node
state_after node (entry ∷ log) = state_after (takes node entry.input).state log

abbrev pub entries_after : NodeState → List (Logged NodeInput) → List (List ℕ)
entries_after node [] = []
entries_after node (entry ∷ log) = option_to_list (takes node entry.input).entry ++ entries_after (takes node entry.input).state log
