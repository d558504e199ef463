-- Logs that are full.
use Rattle.std.specs.Prelude.{◌≡◌, ◌⊎◌, ℕ, ◌+◌, ◌<◌, ◌≤◌, ◌^◌, List, [], ◌∷◌, ◌++◌}
use Rattle.mur_base.specs.declared.limits.TheConstants.{LOG_LIMIT}
use Rattle.node_step.specs.declared.input.NodeInput.{NodeInput}
use Rattle.record_merge.specs.declared.logged.Logged.{Logged}
use Rattle.node_cell.specs.Lines.{log_length}
use Rattle.node_cell.specs.Stamps.{next_stamp, logged_behind}

-- Behind the last stamp of its log a node of this name has no room for a step: the stamp would pass its type, or the lines their limit.
abbrev pub IsFull : List ℕ → List (Logged NodeInput) → ℕ → ℕ → NodeInput → Type 0
IsFull name log last heard input =
    (2 ^ 64 ≤ next_stamp last heard) ⊎ (LOG_LIMIT < log_length name (log ++ logged_behind last heard input ∷ []))

-- The step has this stamp, and leaves so much room.
pub record IsNext (name : List ℕ) (log : List (Logged NodeInput)) (last heard : ℕ) (input : NodeInput) (stamp room : ℕ) : Type 0 where
  pub next : stamp ≡ next_stamp last heard
  pub fits : stamp < 2 ^ 64
  pub left : log_length name (log ++ logged_behind last heard input ∷ []) + room ≡ LOG_LIMIT
