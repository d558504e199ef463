-- What one turn makes of the reading of many.
use Rattle.std.proofs.Common.{◌≡◌, ℕ, zero, suc, ◌+◌, ◌-◌, ◌<◌, ◌≤◌, List, length, Ok, Err, Bool, true, false, cond, ap, refl, sym}
use Rattle.std.proofs.Common.{◌∙◌, arith}
use Rattle.grammar.specs.Part.{Part, ◌>>=◌, starts, turns, repeat}

module _ {S : Type 0} (test : ℕ → Bool) (turn : S → Part S) (s : S) (bytes : List ℕ) where
  -- turns that begin with no byte of the test are none
  pub turns_none : (n : ℕ) → starts test bytes ≡ false → (turns test turn n s).at bytes ≡ Ok (s, bytes)
  unfolding turns
  turns_none zero e = refl
  turns_none (suc n) e = ap (λ b. cond b ((turn s).at bytes >>= (λ t. (turns test turn n t).at)) (Ok (s, bytes))) e

  -- a turn, and the turns behind it
  pub turns_more : (n : ℕ) → starts test bytes ≡ true → (turns test turn (suc n) s).at bytes ≡ (turn s).at bytes >>= (λ t. (turns test turn n t).at)
  unfolding turns
  turns_more n e = ap (λ b. cond b ((turn s).at bytes >>= (λ t. (turns test turn n t).at)) (Ok (s, bytes))) e

-- the turns so far of a repetition: n of them may follow from the first state, and n - i from this one
module _ {S : Type 0} (test : ℕ → Bool) (turn : S → Part S) (first s : S) (bytes rest : List ℕ) (i : ℕ)
    (so_far : (turns test turn (length bytes - i) s).at rest ≡ (turns test turn (length bytes) first).at bytes) where
  pub repeat_ends : length bytes ≤ i → (repeat test turn first).at bytes ≡ Ok (s, rest)
  unfolding repeat turns
  repeat_ends h = sym so_far ∙ ap (λ n. (turns test turn n s).at rest) (let none : length bytes - i ≡ 0 = omega arith in none)

  pub repeat_none : starts test rest ≡ false → (repeat test turn first).at bytes ≡ Ok (s, rest)
  unfolding repeat
  repeat_none e = sym so_far ∙ turns_none test turn s rest (length bytes - i) e

  turn_of : i < length bytes → starts test rest ≡ true → (repeat test turn first).at bytes ≡ (turn s).at rest >>=
      (λ t. (turns test turn (length bytes - (i + 1)) t).at)
  unfolding repeat
  turn_of h e =
      let one : length bytes - i ≡ suc (length bytes - (i + 1)) = omega arith in
      sym so_far ∙ ap (λ n. (turns test turn n s).at rest) one ∙ turns_more test turn s rest (length bytes - (i + 1)) e

  pub repeat_stops : i < length bytes → starts test rest ≡ true → (left : ℕ) → (turn s).at rest ≡ Err left
      → (repeat test turn first).at bytes ≡ Err left
  repeat_stops h e left r = turn_of h e ∙ ap (λ r. r >>= (λ t. (turns test turn (length bytes - (i + 1)) t).at)) r

  pub repeat_more : i < length bytes → starts test rest ≡ true → (t : S) (behind : List ℕ) → (turn s).at rest ≡ Ok (t, behind) →
      (turns test turn (length bytes - (i + 1)) t).at behind ≡ (turns test turn (length bytes) first).at bytes
  unfolding repeat
  repeat_more h e t behind r = sym (turn_of h e ∙ ap (λ r. r >>= (λ t. (turns test turn (length bytes - (i + 1)) t).at)) r)
