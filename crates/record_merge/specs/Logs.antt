-- The logs of nodes, one for each node, and the steps of all logs in one order.
use Rattle.std.specs.Prelude.{◌≡◌, ℕ, ◌+◌, ◌<◌, ◌≤◌, ◌==◌, if◌then◌else◌, List, [], ◌∷◌, ◌++◌}
use Rattle.std.specs.List.{AllByRecursion}
use Rattle.record_merge.specs.declared.logged.Logged.{Logged}
use Rattle.record_merge.specs.declared.logged.MergedStep.{MergedStep}

module _ {I : Type 0} where
  -- each stamp is above the last one, and above the stamp that its step heard
  abbrev pub RisesFrom : ℕ → List (Logged I) → Type 0
  RisesFrom last [] = Unit {0}
  RisesFrom last (entry ∷ log) = (last < entry.stamp) × (entry.heard < entry.stamp) × RisesFrom entry.stamp log

  -- stamps rise in each log
  abbrev pub AreLogs : List (List (Logged I)) → Type 0
  AreLogs logs = AllByRecursion (RisesFrom 0) logs

  -- the log of a node, if the logs are those of the nodes from this place on
  abbrev pub log_from : ℕ → List (List (Logged I)) → ℕ → List (Logged I)
  log_from place [] node = []
  log_from place (log ∷ logs) node = if node == place then log else log_from (place + 1) logs node

  -- the log of the node at a place
  abbrev pub log_at : List (List (Logged I)) → ℕ → List (Logged I)
  log_at logs node = log_from 0 logs node

  -- the steps of one node, out of those of all nodes
  abbrev pub log_of : ℕ → List (MergedStep I) → List (Logged I)
  log_of node [] = []
  log_of node (step ∷ merged) = (if node == step.node then step.entry ∷ [] else []) ++ log_of node merged

  -- no greater stamp, and if the stamps are equal a lower place
  abbrev pub IsBefore : MergedStep I → MergedStep I → Type 0
  IsBefore step other = (step.entry.stamp ≤ other.entry.stamp) × (step.entry.stamp ≡ other.entry.stamp → step.node < other.node)

  abbrev pub IsOrdered : List (MergedStep I) → Type 0
  IsOrdered [] = Unit {0}
  IsOrdered (step ∷ merged) = AllByRecursion (IsBefore step) merged × IsOrdered merged

  -- The entries of all logs, ordered by stamp and then by the node's place.
  pub record IsMerged (logs : List (List (Logged I))) (merged : List (MergedStep I)) : Type 0 where
    -- of each node the entries of its log, in their order
    pub entries : (node : ℕ) → log_of node merged ≡ log_at logs node
    pub ordered : IsOrdered merged
