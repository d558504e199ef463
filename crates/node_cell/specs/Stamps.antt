-- The stamps of a node's log (Lamport's clock).
use Rattle.std.specs.Prelude.{◌≡◌, ℕ, ◌+◌, max, List, [], ◌∷◌}
use Rattle.std.specs.Coded.{Coded-set, coded_ℕ, ×_prop}
use Rattle.node_step.specs.declared.input.NodeInput.{NodeInput}
use Rattle.record_merge.specs.declared.logged.Logged.{Logged}

-- one more than the greater of the last stamp and the one that is heard
abbrev pub next_stamp : ℕ → ℕ → ℕ
next_stamp last heard = max last heard + 1

-- a step that takes an input behind one with this stamp
abbrev pub logged_behind : ℕ → ℕ → NodeInput → Logged NodeInput
logged_behind last heard input = record { stamp = next_stamp last heard; heard = heard; input = input }

-- each stamp of a log is the next one, and they end with this one
abbrev pub StampsTo : ℕ → List (Logged NodeInput) → ℕ → Type 0
StampsTo last [] end = last ≡ end
StampsTo last (entry ∷ log) end = (entry.stamp ≡ next_stamp last entry.heard) × StampsTo entry.stamp log end

pub StampsTo-prop : (last : ℕ) (log : List (Logged NodeInput)) (end : ℕ) → IsProp (StampsTo last log end)
StampsTo-prop last [] end = Coded-set coded_ℕ last end
StampsTo-prop last (entry ∷ log) end = ×_prop (Coded-set coded_ℕ _ _) (StampsTo-prop entry.stamp log end)
