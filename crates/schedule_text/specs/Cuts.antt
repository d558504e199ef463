-- Bytes cut after each LF, and the lines in the pieces.
use Rattle.std.specs.Prelude.{ℕ, ◌-◌, ◌==◌, nat_lt, if◌then◌else◌, List, [], ◌∷◌, length, take, slice_index}
use Rattle.mur_base.specs.Ascii.{cr, lf}
use Rattle.mur_base.specs.Names.{with_first}
use Rattle.schedule_text.specs.declared.cuts.LineCuts.{LineCuts}

-- the pieces of a text: each ends with an LF, but for a rest without one
unfoldable pub cuts_of : List ℕ → List (List ℕ)
cuts_of [] = []
cuts_of (b ∷ text) = if b == lf then (b ∷ []) ∷ cuts_of text else with_first b (cuts_of text)

-- the pieces that an iterator has left
abbrev pub cuts_left : LineCuts → List (List ℕ)
cuts_left left = cuts_of left.rest.now

-- a text without one byte at its end, if that stands there
unfoldable pub without_end : List ℕ → ℕ → List ℕ
without_end text b = if slice_index text (length text - 1) == b then take (length text - 1) text else text

-- the line in a piece: without the LF, and without a CR before the LF
unfoldable pub line_in : List ℕ → List ℕ
line_in piece =
    if nat_lt (length (without_end piece lf)) (length piece) then without_end (without_end piece lf) cr else piece
