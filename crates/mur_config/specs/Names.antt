-- Names of which no two are the same.
use Rattle.std.specs.Prelude.{ℕ, Bool, true, ◌&&◌, not, List, [], ◌∷◌}
use Rattle.std.specs.List.{list_any}
use Rattle.std.specs.Str.{bytes_eq}

unfoldable pub names_differ : List (List ℕ) → Bool
names_differ [] = true
names_differ (name ∷ names) = not (list_any (bytes_eq name) names) && names_differ names
