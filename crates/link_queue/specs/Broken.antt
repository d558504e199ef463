-- The links that are broken. A message that is sent on one is lost.
use Rattle.std.specs.Prelude.{ℕ, Bool, false, not, List, [], ◌∷◌, ◌++◌, filter, Option, None, Some}
use Rattle.std.specs.List.{list_any}
use Rattle.std.specs.Ordering.{nat_cmp}
use Rattle.std.specs.Cmp.Lexicographic.{slice_cmp}
use Rattle.std.specs.BTreeMap.{is_at}
use Rattle.mur_base.specs.Map.{value_at, with_entry}

-- for each node from which a broken link leads, the nodes to which such links lead
abbrev pub Broken : Type 0
Broken = List (List ℕ × List (List ℕ))

abbrev pub leads_nowhere : List (List ℕ) → List ℕ → Bool
leads_nowhere lost to = list_any (is_at (slice_cmp nat_cmp to)) lost

abbrev pub loses : Option (List (List ℕ)) → List ℕ → Bool
loses None to = false
loses (Some lost) to = leads_nowhere lost to

-- the link from one node to another is broken
unfoldable pub is_broken : Broken → List ℕ → List ℕ → Bool
is_broken broken from to = loses (value_at (slice_cmp nat_cmp) broken from) to

abbrev pub lost_or_none : Option (List (List ℕ)) → List (List ℕ)
lost_or_none None = []
lost_or_none (Some lost) = lost

abbrev pub lost_from : Broken → List ℕ → List (List ℕ)
lost_from broken from = lost_or_none (value_at (slice_cmp nat_cmp) broken from)

-- the link from one node to another breaks
unfoldable pub breaking : Broken → List ℕ → List ℕ → Broken
breaking broken from to = with_entry (slice_cmp nat_cmp) broken from (lost_from broken from ++ to ∷ [])

abbrev pub is_other : List ℕ → List ℕ → Bool
is_other to other = not (is_at (slice_cmp nat_cmp to) other)

-- it is whole again
unfoldable pub mending : Broken → List ℕ → List ℕ → Broken
mending broken from to = with_entry (slice_cmp nat_cmp) broken from (filter (is_other to) (lost_from broken from))
