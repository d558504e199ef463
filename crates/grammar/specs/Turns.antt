-- Turns of a repetition that are taken at once.
use Rattle.std.specs.Prelude.{◌≡◌, ℕ, ◌+◌, ◌<◌, ◌≤◌, Bool, true, List}
use Rattle.grammar.specs.Part.{Part, starts, turns}

-- the bytes begin a turn
abbrev pub BeginsTurn : (ℕ → Bool) → List ℕ → Type 0
BeginsTurn test bytes = starts test bytes ≡ true

-- from a state, bytes begin with so many turns, one or more and at most `most`: any more go on from the next state and the bytes behind
pub record TakesTurns {S : Type 0} (test : ℕ → Bool) (turn : S → Part S) (most : ℕ) (state : S) (bytes : List ℕ) (next : S) (behind : List ℕ) (taken : ℕ)
    : Type 0 where
  pub some : 0 < taken
  pub upto : taken ≤ most
  pub all : (more : ℕ) → (turns test turn (taken + more) state).at bytes ≡ (turns test turn more next).at behind
