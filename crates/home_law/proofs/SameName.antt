-- The comparison of two names.
use Rattle.std.proofs.Common.{◌≡◌, ◌≢◌, ℕ, Bool, true, false, nat_eq, List, refl, sym, ◌∙◌}
use Rattle.std.specs.Cmp.Lexicographic.{pointwise, same_text}
use Rattle.std.proofs.lemmas.Cmp.{nat_list_eq_equiv}

pub is_itself : (x : List ℕ) → pointwise nat_eq x x ≡ true
is_itself x = nat_list_eq_equiv.refl x

pub is_the_same : (x y : List ℕ) → pointwise nat_eq x y ≡ true → x ≡ y
is_the_same x y e = same_text x y (sym e)

pub other_way_round : (x y : List ℕ) → pointwise nat_eq x y ≡ false → pointwise nat_eq y x ≡ false
other_way_round x y e = nat_list_eq_equiv.symm y x ∙ e

pub is_another : (x y : List ℕ) → x ≢ y → pointwise nat_eq x y ≡ false
is_another x y ne = by_test (pointwise nat_eq x y) refl
  where
    by_test : (b : Bool) → pointwise nat_eq x y ≡ b → b ≡ false
    by_test true e = absurd (ne (is_the_same x y e))
    by_test false e = refl
