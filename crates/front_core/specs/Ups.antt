-- To which nodes a frontend's link is up: those whose `Up` it took, and whose `End` it didn't take since.
use Rattle.std.specs.Prelude.{ℕ, Bool, List, is_some}
use Rattle.std.specs.Ordering.{nat_cmp}
use Rattle.std.specs.Cmp.Lexicographic.{slice_cmp}
use Rattle.mur_base.specs.Map.{value_at, with_entry, without_key}

abbrev pub Ups : Type 0
Ups = List (List ℕ × Unit {0})

unfoldable pub is_up : Ups → List ℕ → Bool
is_up ups node = is_some (value_at (slice_cmp nat_cmp) ups node)

abbrev pub coming_up : Ups → List ℕ → Ups
coming_up ups node = with_entry (slice_cmp nat_cmp) ups node tt

abbrev pub going_down : Ups → List ℕ → Ups
going_down ups node = without_key (slice_cmp nat_cmp) ups node
