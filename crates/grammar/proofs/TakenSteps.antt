-- What turns that are taken at once make of the reading of many.
use Rattle.std.proofs.Common.{◌≡◌, ℕ, suc, ◌+◌, ◌-◌, ◌<◌, List, length, Ok, Err, Bool, true, false, ap, sym, ◌∙◌, arith}
use Rattle.grammar.specs.Part.{Part, ◌>>=◌, starts, turns, repeat}
use Rattle.grammar.specs.Turns.{BeginsTurn, TakesTurns}
use Rattle.grammar.proofs.TurnSteps.{turns_none, turns_more}

module _ {S : Type 0} (test : ℕ → Bool) (turn : S → Part S) (s : S) (bytes : List ℕ) where
  -- one turn is taken
  pub takes_one : (most : ℕ) → 0 < most → BeginsTurn test bytes → (next : S) (behind : List ℕ) → (turn s).at bytes ≡ Ok (next, behind)
      → TakesTurns test turn most s bytes next behind 1
  takes_one most some begins next behind r = record {
    some = omega arith;
    upto = omega arith;
    all = λ more. ap (λ n. (turns test turn n s).at bytes) (let one : 1 + more ≡ suc more = omega arith in one)
        ∙ turns_more test turn s bytes more begins ∙ ap (λ r. r >>= (λ t. (turns test turn more t).at)) r;
  }

-- the turns so far of a repetition: as many of them may follow from the first state as from this one with what is left
module _ {S : Type 0} (test : ℕ → Bool) (turn : S → Part S) (first s : S) (bytes rest : List ℕ) (left : ℕ)
    (so_far : (turns test turn left s).at rest ≡ (turns test turn (length bytes) first).at bytes) where
  pub repeat_ends : left ≡ 0 → (repeat test turn first).at bytes ≡ Ok (s, rest)
  unfolding repeat turns
  repeat_ends none = sym so_far ∙ ap (λ n. (turns test turn n s).at rest) none

  pub repeat_none : starts test rest ≡ false → (repeat test turn first).at bytes ≡ Ok (s, rest)
  unfolding repeat
  repeat_none e = sym so_far ∙ turns_none test turn s rest left e

  pub repeat_stops : 0 < left → starts test rest ≡ true → (stop : ℕ) → (turn s).at rest ≡ Err stop → (repeat test turn first).at bytes ≡ Err stop
  unfolding repeat
  repeat_stops some e stop r =
      let one : left ≡ suc (left - 1) = omega arith in
      sym so_far ∙ ap (λ n. (turns test turn n s).at rest) one ∙ turns_more test turn s rest (left - 1) e
      ∙ ap (λ r. r >>= (λ t. (turns test turn (left - 1) t).at)) r
