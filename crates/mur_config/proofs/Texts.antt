-- Texts are compared alike from both sides.
use Rattle.std.proofs.Common.{◌≡◌, ℕ, Bool, true, false, List, refl, sym}
use Rattle.std.specs.Str.{bytes_eq}
use Rattle.std.proofs.lemmas.Slice.Eq.{bytes_eq-Decides}

same_by : (one other : List ℕ) → (a b : Bool) → bytes_eq one other ≡ a → bytes_eq other one ≡ b → a ≡ b
same_by one other true true o u = refl
same_by one other false false o u = refl
same_by one other true false o u = let yes = (bytes_eq-Decides other one).1 (sym ((bytes_eq-Decides one other).0 o)) in cc
same_by one other false true o u = let yes = (bytes_eq-Decides one other).1 (sym ((bytes_eq-Decides other one).0 u)) in cc

pub bytes_eq_both_ways : (one other : List ℕ) → bytes_eq one other ≡ bytes_eq other one
bytes_eq_both_ways one other = same_by one other _ _ refl refl
