-- Writing lines through a part that is kept back until it is large enough.
use Rattle.std.specs.Prelude.{◌≡◌, ℕ, List, ◌++◌, Option, Result, Ok, Err}
use Rattle.mur_edge.specs.Sink.{Took}

-- lines were taken in: a front of what was kept back and the lines went to the sink, and the rest is kept back
pub record TakesIn (before now : Option (List ℕ)) (part kept lines : List ℕ) : Type 0 where
  pub front : List ℕ
  pub took : Took before now front
  pub whole : front ++ kept ≡ part ++ lines

-- a front of a text went to the sink
pub record TookPart (before now : Option (List ℕ)) (text : List ℕ) : Type 0 where
  pub front : List ℕ
  pub back : List ℕ
  pub took : Took before now front
  pub whole : front ++ back ≡ text

-- lines were put out, by the answer: all were taken in or, where that failed, a front of what was kept back and the lines went to
-- the sink
abbrev pub DidPut : {E : Type 0} → Option (List ℕ) → Option (List ℕ) → List ℕ → List ℕ → List ℕ → Result (Unit {0}) E → Type 0
DidPut before now part kept lines (Ok done) = TakesIn before now part kept lines
DidPut before now part kept lines (Err fault) = TookPart before now (part ++ lines)
