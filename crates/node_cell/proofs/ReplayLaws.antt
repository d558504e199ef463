-- The log of a cell, as the law of merged logs takes it.
use Rattle.std.proofs.Common.{◌≡◌, ℕ, ◌<◌, List, [], ◌∷◌, refl, sym, ◌∙◌, ap, arith}
use Rattle.node_step.specs.declared.input.NodeInput.{NodeInput}
use Rattle.node_step.specs.declared.node.NodeState.{NodeState}
use Rattle.link_msg.specs.declared.message.LinkMsg.{LinkMsg}
use Rattle.link_msg.specs.declared.out.Out.{Out}
use Rattle.record_merge.specs.declared.logged.Logged.{Logged}
use Rattle.record_merge.specs.Logs.{RisesFrom}
use Rattle.record_merge.specs.Replay.{replayed}
use Rattle.record_merge.specs.Rules.{Rules}
use Rattle.node_cell.specs.Replayed.{state_after}
use Rattle.node_cell.specs.Replays.{AreOfNodes}
use Rattle.node_cell.specs.Stamps.{StampsTo}

pub replays_by : (rules : Rules NodeState NodeInput Out LinkMsg) (it : NodeState) (log : List (Logged NodeInput)) → AreOfNodes rules
    → state_after it log ≡ replayed rules it log
replays_by rules it [] are = refl
replays_by rules it (entry ∷ log) are =
    ap (λ (s : NodeState). state_after s log) (sym (are.after it entry.input)) ∙ replays_by rules (rules.after it entry.input) log are

pub rises_to : (last : ℕ) (log : List (Logged NodeInput)) (end : ℕ) → StampsTo last log end → RisesFrom last log
rises_to last [] end is = tt
rises_to last (entry ∷ log) end is =
    let next = is.0 in
    let above : last < entry.stamp = omega (arith, next) in
    let heard : entry.heard < entry.stamp = omega (arith, next) in
    (above, heard, rises_to entry.stamp log end is.1)
