-- A map as the list of its entries in the order of their keys.
use Rattle.std.specs.Prelude.{List, Option}
use Rattle.std.specs.declared.cmp.Ordering.{Ordering}
use Rattle.std.specs.BTreeMap.{is_at, insert_entry}
use Rattle.std.specs.Map.{keys_of, lookup, set_value, remove_entry}
use Rattle.std.specs.List.Sorted.{IsStrictlySortedBy}

module _ {K X : Type 0} (cmp : K → K → Ordering) where
  -- the value at a key, if there is one
  abbrev pub value_at : List (K × X) → K → Option X
  value_at entries key = lookup (is_at (cmp key)) entries

  -- the entries with this value at the key: an entry that is there keeps its place, a new one goes to its place in the order
  abbrev pub with_entry : List (K × X) → K → X → List (K × X)
  with_entry entries key value = insert_entry cmp entries key value

  -- the entries without the one at the key
  abbrev pub without_key : List (K × X) → K → List (K × X)
  without_key entries key = remove_entry (is_at (cmp key)) entries

  -- the entries with another value at a key that is there; unchanged where it isn't
  abbrev pub with_value : List (K × X) → K → X → List (K × X)
  with_value entries key value = set_value (is_at (cmp key)) entries value

  -- the keys rise strictly
  abbrev pub IsInOrder : List (K × X) → Type 0
  IsInOrder entries = IsStrictlySortedBy cmp (keys_of entries)
