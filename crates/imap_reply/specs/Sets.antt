-- Numbers as a set (RFC 9051, 9: sequence-set without `*`): each run of two or more that follow one another is a range.
use Rattle.std.specs.Prelude.{ℕ, suc, ◌==◌, if◌then◌else◌, List, [], ◌∷◌, ◌++◌, decimal}
use Rattle.mur_base.specs.Ascii.{comma, colon}

-- numbers that follow one another, from the first to the last
pub record Run : Type 0 where
  pub first : ℕ
  pub last : ℕ

-- a run and, behind it, runs: the first of these is joined to it where it goes on at once
unfoldable pub before_runs : Run → List Run → List Run
before_runs run [] = run ∷ []
before_runs run (next ∷ runs) =
    if suc run.last == next.first then record { first = run.first; last = next.last } ∷ runs
    else run ∷ next ∷ runs

-- the longest runs of which numbers are made, in their order
unfoldable pub runs_of : List ℕ → List Run
runs_of [] = []
runs_of (number ∷ numbers) = before_runs (record { first = number; last = number }) (runs_of numbers)

-- seq-number, or seq-range
unfoldable pub number_run_text : Run → List ℕ
number_run_text run = if run.first == run.last then decimal run.first else decimal run.first ++ colon ∷ decimal run.last

-- a comma before each
unfoldable pub more_runs_text : List Run → List ℕ
more_runs_text [] = []
more_runs_text (run ∷ runs) = comma ∷ (number_run_text run ++ more_runs_text runs)

-- a comma between each two
unfoldable pub runs_text : List Run → List ℕ
runs_text [] = []
runs_text (run ∷ runs) = number_run_text run ++ more_runs_text runs

unfoldable pub set_text : List ℕ → List ℕ
set_text numbers = runs_text (runs_of numbers)
