-- What a reader's code gives, beside what its part says.
use Rattle.std.specs.Prelude.{◌≡◌, ℕ, List, Result, Ok, Err, MatchResult}
use Rattle.grammar.specs.Exact.{Stops}
use Rattle.grammar.specs.declared.error.Stop.{Stop}
use Rattle.grammar.specs.declared.error.ReadError.{ReadError}
use Rattle.grammar.specs.declared.error.ReadError.TheVariants.{Stopped}

-- code that takes no memory gives just what the part says
abbrev pub Finds : {X A : Type 0} → (X → A) → Result X Stop → Result A ℕ → Type 0
Finds view result wanted = MatchResult result (λ x. wanted ≡ Ok (view x)) (λ stop. wanted ≡ Err stop.left)

-- an error that is no want of memory is the stop that the part says
abbrev pub StopsAs : {A : Type 0} → ReadError → Result A ℕ → Type 0
StopsAs error wanted = (stop : Stop) → error ≡ Stopped stop → wanted ≡ Err stop.left

-- code gives what the part says, but for want of memory
abbrev pub Gives : {X A : Type 0} → (X → A) → Result X ReadError → Result A ℕ → Type 0
Gives view result wanted = MatchResult result (λ x. wanted ≡ Ok (view x)) (λ error. StopsAs error wanted)

-- the answer of a reader of whole byte strings, but for want of memory: a value exactly where the bytes spell it, else a
-- stop at the longest prefix that begins some spelling
pub record ReadsAs {V : Type 0} (L : List ℕ → V → Type 0) (bytes : List ℕ) (answer : Result V ReadError) : Type 0 where
  pub found : (v : V) → answer ≡ Ok v → L bytes v
  pub only : (v : V) → L bytes v → ((w : V) → answer ≡ Ok w → w ≡ v) × ((stop : Stop) → ¬ (answer ≡ Err (Stopped stop)))
  pub stops : (stop : Stop) → answer ≡ Err (Stopped stop) → Stops L bytes stop.left
