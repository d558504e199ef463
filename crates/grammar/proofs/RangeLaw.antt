-- Parts told apart by the range of their first byte.
use Rattle.std.proofs.Common.{◌≡◌, ℕ, ◌<◌, ◌≤◌, Bool, true, false, nat_le, arith, leb-true, le-leb}
use borrow.Author.Tests.{lt-leb}
use Rattle.grammar.specs.Part.{Part, choose, between}
use Rattle.grammar.specs.Exact.{Good, StartsWith}
use Rattle.grammar.proofs.Conditions.{and_both, and_left, and_right, and_false_right}
use Rattle.grammar.proofs.ChoiceLaw.{good_choose}
use Rattle.grammar.proofs.StartLaw.{starts_weaker, starts_choose, without_from}

-- a byte of a range is in a wider one
pub between_within : (low high within_low within_high c : ℕ) → low ≤ within_low → within_high ≤ high → between within_low within_high c ≡ true
    → between low high c ≡ true
between_within low high within_low within_high c below above h =
    let from : within_low ≤ c = leb-true within_low c (and_left _ _ h) in
    let upto : c ≤ within_high = leb-true c within_high (and_right (nat_le within_low c) _ h) in
    and_both _ _ (le-leb low c (omega arith)) (le-leb c high (omega arith))

-- and in none below
pub between_apart : (low high next_low next_high c : ℕ) → high < next_low → between next_low next_high c ≡ true → between low high c ≡ false
between_apart low high next_low next_high c below h =
    let from : next_low ≤ c = leb-true next_low c (and_left _ _ h) in
    and_false_right _ _ (lt-leb c high (omega arith))

-- a part that is good whatever follows, and begins with a byte of a range
pub record Ranged (V : Type 0) {A : Type 0} (after : ℕ → Bool) (low high : ℕ) (p : Part A) : Type 0 where
  pub good : Good V after p
  pub starts : StartsWith (between low high) p

-- one of two by ranges, the lower first
pub ranged_choose : {V A : Type 0} {after : ℕ → Bool} {low high next_low next_high : ℕ} (p q : Part A) → low ≤ next_low →
    high < next_low → high ≤ next_high →
    Ranged V after low high p → Ranged V after next_low next_high q → Ranged V after low next_high (choose (between low high) p q)
ranged_choose {V} {A} {after} {low} {high} {next_low} {next_high} p q from below upto r s = record {
  good = good_choose (between low high) p q r.good s.good r.starts
      (without_from (between low high) after q (λ c. between_apart low high next_low next_high c below) s.starts);
  starts = starts_choose (between low high) p q
      (starts_weaker p (λ c. between_within low next_high low high c (omega arith) upto) r.starts)
      (starts_weaker q (λ c. between_within low next_high next_low next_high c from (omega arith)) s.starts);
}
