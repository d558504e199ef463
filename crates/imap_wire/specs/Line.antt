-- A line of a command (RFC 9051, 2.2): its text, and the CRLF that ends it.
use Rattle.std.specs.Prelude.{ℕ, ◌&&◌, ◌==◌, List, [], ◌∷◌, length, drop, Option, None, Some, if◌then◌else◌}
use Rattle.std.specs.Option.{option_map}
use Rattle.mur_base.specs.Ascii.{cr, begins_with_lf, ends_with_cr}

-- all bytes but the last
unfoldable pub without_last : List ℕ → List ℕ
without_last [] = []
without_last (byte ∷ []) = []
without_last (byte ∷ next ∷ rest) = byte ∷ without_last (next ∷ rest)

-- a text with one byte more in front, and what stands behind it
abbrev pub with_first_byte : ℕ → List ℕ × List ℕ → List ℕ × List ℕ
with_first_byte byte split = (byte ∷ split.0, split.1)

-- the text before the first CRLF, and the bytes behind that CRLF
unfoldable pub split_line : List ℕ → Option (List ℕ × List ℕ)
split_line [] = None
split_line (byte ∷ rest) =
    if byte == cr && begins_with_lf rest then Some ([], drop 1 rest)
    else option_map (with_first_byte byte) (split_line rest)

-- how long a line's text is at least, of which this much has come and no CRLF: a CR at the end may begin it
abbrev pub least_length : List ℕ → ℕ
least_length begun = if ends_with_cr begun then length (without_last begun) else length begun
