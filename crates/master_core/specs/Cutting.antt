-- The lines that end as bytes come, read byte by byte: each ends with the first LF after which no line goes on.
use Rattle.std.specs.Prelude.{ℕ, Bool, ◌&&◌, ◌==◌, not, List, [], ◌∷◌, ◌++◌, if◌then◌else◌}
use Rattle.mur_base.specs.Ascii.{lf}
use Rattle.mupdate_codec.specs.Waits.{goes_on}

-- the lines that end, and the bytes of the line that has begun then
pub record Cut : Type 0 where
  pub lines : List (List ℕ)
  pub begun : List ℕ

abbrev pub with_line : List ℕ → Cut → Cut
with_line line cut = record { lines = line ∷ cut.lines; begun = cut.begun }

-- the line ends with this byte, its last
abbrev pub ends_at : ℕ → List ℕ → Bool
ends_at byte line = (byte == lf) && not (goes_on line)

-- more bytes come after those of a line that has begun
unfoldable pub cut_from : List ℕ → List ℕ → Cut
cut_from begun [] = record { lines = []; begun = begun }
cut_from begun (byte ∷ more) =
    if ends_at byte (begun ++ byte ∷ []) then with_line (begun ++ byte ∷ []) (cut_from [] more) else cut_from (begun ++ byte ∷ []) more
