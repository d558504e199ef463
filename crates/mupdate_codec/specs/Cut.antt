-- The lines that the bytes of a connection are cut into: each ends with the first LF behind which no line goes on. So where the bytes up to
-- an LF are a line, they are cut there; where they begin a longer line, as with an LF of a literal, they aren't; and where no line goes on
-- from some byte, the line ends with the first LF from there on.
use Rattle.std.specs.Prelude.{◌≡◌, ℕ, ◌≤◌, List, [], ◌∷◌, ◌++◌, length, take, Option, None, Some}
use Rattle.mur_base.specs.Ascii.{lf}
use Rattle.mupdate_codec.specs.Answers.{IsBegun}
use Rattle.mupdate_codec.specs.Commands.{IsCommandLine}

-- no line ends in the bytes: those up to each LF begin a longer one
abbrev pub IsUncut : List ℕ → Type 0
IsUncut bytes = (front rest : List ℕ) → bytes ≡ front ++ lf ∷ rest → IsBegun IsCommandLine (front ++ lf ∷ [])

-- a line ends with these bytes, and none before
pub record EndsLine (bytes : List ℕ) : Type 0 where
  pub front : List ℕ
  pub parts : bytes ≡ front ++ lf ∷ []
  pub uncut : IsUncut front
  pub ends : ¬ IsBegun IsCommandLine bytes

-- bytes, the lines that they are cut into, and what is left of them
pub data IsCut : List ℕ → List (List ℕ) → List ℕ → Type 0 where
  waits : (bytes : List ℕ) → IsUncut bytes → IsCut bytes [] bytes
  cuts : (line rest : List ℕ) (lines : List (List ℕ)) (left : List ℕ) → EndsLine line → IsCut rest lines left → IsCut (line ++ rest) (line ∷ lines) left

-- what comes of a piece behind bytes in which no line ends: the line that ends first, or none where none ends in it; how many bytes of it are
-- taken; and the bytes of the line that has begun then
abbrev pub Feeds : List ℕ → List ℕ → Option (List ℕ) → ℕ → Option (List ℕ) → Type 0
Feeds begun piece (Some line) taken after = (taken ≤ length piece) × (line ≡ begun ++ take taken piece) × EndsLine line × (after ≡ Some [])
Feeds begun piece None taken after = (taken ≡ length piece) × (after ≡ Some (begun ++ piece)) × IsUncut (begun ++ piece)
