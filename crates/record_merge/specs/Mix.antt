-- How the code merges logs: the steps of one node after the other are mixed into those before.
use Rattle.std.specs.Prelude.{ℕ, ◌+◌, nat_lt, Bool, true, false, if◌then◌else◌, List, [], ◌∷◌, map, Option, None, Some}
use Rattle.record_merge.specs.declared.logged.Logged.{Logged}
use Rattle.record_merge.specs.declared.logged.MergedStep.{MergedStep}

module _ {I : Type 0} where
  abbrev pub placed_at : ℕ → Logged I → MergedStep I
  placed_at node entry = record { node = node; entry = entry }

  -- a node's log, each entry with the node's place
  abbrev pub placed : ℕ → List (Logged I) → List (MergedStep I)
  placed node log = map (placed_at node) log

  -- the other list's next step, if it has one, comes before the first list's
  abbrev pub is_earlier : Option (MergedStep I) → Option (MergedStep I) → Bool
  is_earlier None first = false
  is_earlier (Some other) None = true
  is_earlier (Some other) (Some first) = nat_lt other.entry.stamp first.entry.stamp

  -- the first step stands after those of the other list that have lower stamps
  abbrev pub mix_at : MergedStep I → (List (MergedStep I) → List (MergedStep I)) → List (MergedStep I) → List (MergedStep I)
  mix_at first rest [] = first ∷ rest []
  mix_at first rest (other ∷ others) =
      if nat_lt other.entry.stamp first.entry.stamp then other ∷ mix_at first rest others else first ∷ rest (other ∷ others)

  abbrev pub mix : List (MergedStep I) → List (MergedStep I) → List (MergedStep I)
  mix [] others = others
  mix (first ∷ front) others = mix_at first (mix front) others

  -- the logs of the nodes from a place on, mixed into the steps of the nodes before
  abbrev pub merged_from : ℕ → List (MergedStep I) → List (List (Logged I)) → List (MergedStep I)
  merged_from place merged [] = merged
  merged_from place merged (log ∷ logs) = merged_from (place + 1) (mix merged (placed place log)) logs
