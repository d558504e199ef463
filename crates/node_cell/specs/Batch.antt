-- Several inputs, which a node takes one after the other.
use Rattle.std.specs.Prelude.{◌≡◌, ◌⊎◌, ℕ, ◌+◌, ◌<◌, ◌≤◌, ◌^◌, ⊤, List, [], ◌∷◌, ◌++◌}
use Rattle.mur_base.specs.declared.limits.TheConstants.{LOG_LIMIT}
use Rattle.node_step.specs.declared.input.NodeInput.{NodeInput}
use Rattle.node_step.specs.declared.node.NodeState.{NodeState}
use Rattle.node_step.specs.NodeStep.{takes}
use Rattle.node_step.specs.Room.{HasRoomToTake}
use Rattle.record_merge.specs.declared.logged.Logged.{Logged}
use Rattle.node_cell.specs.declared.turn.Turn.{Turn}
use Rattle.node_cell.specs.Lines.{log_length}
use Rattle.node_cell.specs.Stamps.{next_stamp, logged_behind}

-- the steps that take them behind a step with this stamp; each input comes with the stamp that it heard
abbrev pub steps_behind : ℕ → List (ℕ × NodeInput) → List (Logged NodeInput)
steps_behind last [] = []
steps_behind last (it ∷ inputs) = logged_behind last it.0 it.1 ∷ steps_behind (next_stamp last it.0) inputs

-- the stamp of the last of these steps
abbrev pub last_stamp : ℕ → List (ℕ × NodeInput) → ℕ
last_stamp last [] = last
last_stamp last (it ∷ inputs) = last_stamp (next_stamp last it.0) inputs

-- what each step of a log gives
abbrev pub turns_of : NodeState → List (Logged NodeInput) → List Turn
turns_of node [] = []
turns_of node (entry ∷ log) = record { outs = (takes node entry.input).outs; stamp = entry.stamp } ∷ turns_of (takes node entry.input).state log

abbrev pub HasRoomToTakeAll : NodeState → List (ℕ × NodeInput) → Type 0
HasRoomToTakeAll node [] = ⊤
HasRoomToTakeAll node (it ∷ inputs) = HasRoomToTake node it.1 × HasRoomToTakeAll (takes node it.1).state inputs

-- a node of this name has no room for these steps: a stamp would pass its type, or the lines their limit
abbrev pub IsFullForAll : List ℕ → List (Logged NodeInput) → ℕ → List (ℕ × NodeInput) → Type 0
IsFullForAll name log last inputs = (2 ^ 64 ≤ last_stamp last inputs) ⊎ (LOG_LIMIT < log_length name (log ++ steps_behind last inputs))

-- the last step has this stamp, and the steps leave so much room
pub record AreNext (name : List ℕ) (log : List (Logged NodeInput)) (last : ℕ) (inputs : List (ℕ × NodeInput)) (stamp room : ℕ) : Type 0 where
  pub next : stamp ≡ last_stamp last inputs
  pub fits : stamp < 2 ^ 64
  pub left : log_length name (log ++ steps_behind last inputs) + room ≡ LOG_LIMIT
