-- A search for NUL tells how many octets stand before the first that is no CHAR8.
use Rattle.std.proofs.Common.{◌≡◌, ℕ, zero, suc, ◌<◌, ◌≤◌, List, [], ◌∷◌, length, take, get_or, Option, None, Some, true, false, not, ◌==◌, refl, ap, arith}
use Rattle.std.specs.List.{list_all}
use Rattle.std.specs.Option.{unwrap_or}
use Rattle.memchr.specs.Find.{IsFirstByte, is_byte}
use Rattle.grammar.proofs.Conditions.{and_both, not_then_false}
use Rattle.imap_text.specs.Characters.{is_char8}

all_before : (bytes : List ℕ) (n : ℕ) → n ≤ length bytes → ((k : ℕ) → k < n → ¬ (get_or bytes k 0 == 0 ≡ true)) → list_all is_char8 (take n bytes) ≡ true
unfolding is_char8
all_before bytes zero h none = refl
all_before [] (suc n) h none = refl
all_before (c ∷ bytes) (suc n) h none =
    and_both _ _ (ap not (not_then_false (c == 0) (none 0 (omega arith)))) (all_before bytes n (omega arith) (λ k below. none (suc k) (omega arith)))

-- how many octets stand before the first NUL
pub record StandBefore (bytes : List ℕ) (n : ℕ) : Type 0 where
  pub there : n ≤ length bytes
  pub passing : list_all is_char8 (take n bytes) ≡ true
  pub ends : n < length bytes → is_char8 (get_or bytes n 0) ≡ false

pub found_before : (bytes : List ℕ) (found : Option ℕ) → IsFirstByte (is_byte 0) bytes found → StandBefore bytes (unwrap_or found (length bytes))
unfolding is_char8
found_before bytes None first = record {
  there = omega arith;
  passing = all_before bytes (length bytes) (omega arith) (λ k below. first k (omega arith) below);
  ends = λ below. absurd (omega arith);
}
found_before bytes (Some at) first = record {
  there = omega (arith, first.0.high);
  passing = all_before bytes at (omega (arith, first.0.high)) (λ k below. first.0.before k (omega arith) below);
  ends = λ below. ap not first.1;
}
