-- Keywords that come in rising order.
use Rattle.std.specs.Prelude.{◌≡◌, ℕ, List}
use Rattle.std.specs.declared.cmp.Ordering.TheVariants.{Less}
use Rattle.std.specs.List.{AllByRecursion}
use Rattle.std.specs.Ordering.{nat_cmp}
use Rattle.std.specs.Cmp.Lexicographic.{slice_cmp}

-- what is higher than the last one is higher than each
abbrev pub IsBelow : List ℕ → List (List ℕ) → Type 0
IsBelow last texts = AllByRecursion (λ text. (higher : List ℕ) → slice_cmp nat_cmp last higher ≡ Less → slice_cmp nat_cmp text higher ≡ Less) texts
