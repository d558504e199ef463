-- Messages that a command names by their UIDs (RFC 9051, 6.4.9).
use Rattle.std.specs.Prelude.{ℕ, List, []}
use Rattle.std.specs.List.{fold}
use Rattle.std.specs.Ordering.{nat_cmp}
use Rattle.std.specs.BTreeSet.{insert_key}

-- the set of some UIDs, in rising order
abbrev pub set_of : List ℕ → List ℕ
set_of uids = fold (insert_key nat_cmp) [] uids
