-- How runs of device calls join.
use Rattle.std.proofs.Common.{inl, inr, ⊎_elim, ℕ, List, arith}
use Rattle.mur_disk.specs.Moments.{LeavesOnly}

module _ {D : Type 0} (moment : D → ℕ) (left_since : D → ℕ → List ℕ → Type 0) where
  pub weaker : (old new : D) (P Q : List ℕ → Type 0) → LeavesOnly moment left_since old new P → ((image : List ℕ) → P image → Q image)
      → LeavesOnly moment left_since old new Q
  weaker old new P Q run implies = record {
    later = run.later;
    each = λ image left. implies image (run.each image left);
    before = λ t image le left. ⊎_elim (λ was. inl was) (λ p. inr (implies image p)) (run.before t image le left);
  }

  pub and_then : (old mid new : D) (P : List ℕ → Type 0) → LeavesOnly moment left_since old mid P → LeavesOnly moment left_since mid new P
      → LeavesOnly moment left_since old new P
  and_then old mid new P first second = record {
    later = omega (arith, first.later, second.later);
    each = λ image left. ⊎_elim (first.each image) (λ p. p) (second.before (moment old) image first.later left);
    before = λ t image le left. ⊎_elim (first.before t image le) (λ p. inr p) (second.before t image (omega (arith, le, first.later)) left);
  }
