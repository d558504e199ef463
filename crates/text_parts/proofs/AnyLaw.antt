-- Any bytes pass the test that each byte passes.
use Rattle.std.proofs.Common.{◌≡◌, ℕ, List, [], ◌∷◌, true, refl}
use Rattle.std.specs.List.{list_all}
use Rattle.grammar.specs.Exact.{any}

pub all_any : (s : List ℕ) → list_all any s ≡ true
all_any [] = refl
all_any (c ∷ s) = all_any s
