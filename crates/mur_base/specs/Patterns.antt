-- Patterns of LIST (RFC 9051, 6.3.9): '*' stands for any bytes, '%' for any bytes within a level, each other byte for itself.
use Rattle.std.specs.Prelude.{◌≡◌, ℕ, Bool, false, ◌||◌, ◌&&◌, not, ◌==◌, ◌≤◌, if◌then◌else◌, List, [], ◌∷◌, length, drop, slice_index_or}
use Rattle.mur_base.specs.Ascii.{percent, star, dot}

unfoldable pub is_wildcard : ℕ → Bool
is_wildcard b = (b == star) || (b == percent)

-- a wildcard may stand for this byte
unfoldable pub covers : ℕ → ℕ → Bool
covers wildcard b = (wildcard == star) || not (b == dot)

-- a test holds behind some bytes that a wildcard stands for, which may be none
unfoldable pub behind_some : ℕ → (List ℕ → Bool) → List ℕ → Bool
behind_some wildcard test [] = test []
behind_some wildcard test (b ∷ text) = test (b ∷ text) || (covers wildcard b && behind_some wildcard test text)

-- a test holds behind this byte
unfoldable pub behind_one : ℕ → (List ℕ → Bool) → List ℕ → Bool
behind_one byte test [] = false
behind_one byte test (b ∷ text) = (b == byte) && test text

-- a test holds behind what a byte of a pattern stands for
unfoldable pub behind_byte : ℕ → (List ℕ → Bool) → List ℕ → Bool
behind_byte byte test text = if is_wildcard byte then behind_some byte test text else behind_one byte test text

-- a text matches a pattern, to its end
unfoldable pub matches : List ℕ → List ℕ → Bool
matches [] text = length text == 0
matches (byte ∷ pattern) text = behind_byte byte (matches pattern) text

-- the places of a text are marked from which a test holds, and no other
abbrev pub AreMarked : (List ℕ → Bool) → List ℕ → List Bool → Type 0
AreMarked test text marks = (i : ℕ) → i ≤ length text → slice_index_or marks i false ≡ test (drop i text)
