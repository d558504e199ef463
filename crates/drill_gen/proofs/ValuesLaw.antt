-- A state by the two wrapping steps of the code.
use Rattle.std.proofs.Common.{◌≡◌, ◌∙◌, ℕ, ◌+◌, ◌*◌, ◌%◌, ◌^◌, ap}
use Rattle.std.proofs.Math.Nat.{mod-add-mod, mul_comm}
use Rattle.drill_gen.specs.Values.{next_state}

pub stepped : (state product : ℕ) → product ≡ (state * 6364136223846793005) % 2 ^ 64 → (product + 1442695040888963407) % 2 ^ 64 ≡ next_state state
unfolding next_state
stepped state product is =
    ap (λ x. (x + 1442695040888963407) % 2 ^ 64) is
    ∙ (mod-add-mod (state * 6364136223846793005) (2 ^ 64) 1442695040888963407
    ∙ ap (λ x. (x + 1442695040888963407) % 2 ^ 64) (mul_comm state 6364136223846793005))
