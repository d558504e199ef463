-- What a sink tells, and what a write does to it.
use Rattle.std.specs.Prelude.{◌≡◌, ℕ, List, [], Option, Result, MatchResult, MatchOption, ⊤, take}
use Rattle.std.specs.Io.KnownBytes.{append_known}
use Rattle.mur_edge.specs.Counts.{CountsFailures}

-- the bytes taken since it was handed out, where it tells them; how many writes failed
pub record SinkFacts : Type 0 where
  pub taken : Option (List ℕ)
  pub faults : ℕ

-- at `Ok(n)` the first n bytes of the piece were taken; a failed write takes nothing
abbrev pub WriteTakes : {E : Type 0} → Option (List ℕ) → Option (List ℕ) → Result ℕ E → List ℕ → Type 0
WriteTakes before now answer piece =
    MatchResult answer (λ n. now ≡ append_known before (take n piece)) (λ _. now ≡ before)

-- what a write does to all that a sink tells
pub record DidWrite {E : Type 0} (before now : SinkFacts) (answer : Result ℕ E) (piece : List ℕ) : Type 0 where
  pub bytes : WriteTakes before.taken now.taken answer piece
  pub cause : CountsFailures before.faults now.faults answer

-- all these bytes were taken
abbrev pub Took : Option (List ℕ) → Option (List ℕ) → List ℕ → Type 0
Took before now bytes = now ≡ append_known before bytes

-- the first of these bytes were taken, from none to all
abbrev pub TookFront : Option (List ℕ) → Option (List ℕ) → List ℕ → Type 0
TookFront before now bytes = (n : ℕ) × Took before now (take n bytes)

-- a sink as it is handed out: it has taken nothing, and nothing is counted
pub record IsFreshSink (sink : SinkFacts) : Type 0 where
  pub empty : MatchOption sink.taken ⊤ (λ bytes. bytes ≡ [])
  pub faultless : sink.faults ≡ 0

-- a sink that was handed out fresh holds all of a text, or a front of it, where it tells
abbrev pub HoldsAll : Option (List ℕ) → List ℕ → Type 0
HoldsAll taken text = MatchOption taken ⊤ (λ bytes. bytes ≡ text)

abbrev pub HoldsFront : Option (List ℕ) → List ℕ → Type 0
HoldsFront taken text = MatchOption taken ⊤ (λ bytes. (n : ℕ) × (bytes ≡ take n text))
