-- The replay of a node's log, as the law of merged logs has it.
use Rattle.std.specs.Prelude.{◌≡◌, List}
use Rattle.link_msg.specs.declared.message.LinkMsg.{LinkMsg}
use Rattle.link_msg.specs.declared.out.Out.{Out}
use Rattle.node_step.specs.declared.input.NodeInput.{NodeInput}
use Rattle.node_step.specs.declared.node.NodeState.{NodeState}
use Rattle.node_step.specs.NodeStep.{takes}
use Rattle.record_merge.specs.declared.logged.Logged.{Logged}
use Rattle.record_merge.specs.Replay.{replayed}
use Rattle.record_merge.specs.Rules.{Rules}

-- rules by which a node acts as its step says; how messages travel is open
pub record AreOfNodes (rules : Rules NodeState NodeInput Out LinkMsg) : Type 0 where
  pub after : (node : NodeState) (input : NodeInput) → rules.after node input ≡ (takes node input).state
  pub outputs : (node : NodeState) (input : NodeInput) → rules.outputs node input ≡ (takes node input).outs

-- by all such rules this node is the replay of a log
abbrev pub ReplaysAs : NodeState → List (Logged NodeInput) → NodeState → Type 0
ReplaysAs begun log node = (rules : Rules NodeState NodeInput Out LinkMsg) → AreOfNodes rules → node ≡ replayed rules begun log
