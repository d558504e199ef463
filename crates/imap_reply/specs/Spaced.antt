-- Texts with a space between each two, as the lists of a response stand (RFC 9051, 9).
use Rattle.std.specs.Prelude.{ℕ, List, [], ◌∷◌, ◌++◌}
use Rattle.mur_base.specs.Ascii.{space}

-- a space before each
unfoldable pub more_spaced : List (List ℕ) → List ℕ
more_spaced [] = []
more_spaced (text ∷ texts) = space ∷ (text ++ more_spaced texts)

unfoldable pub spaced_text : List (List ℕ) → List ℕ
spaced_text [] = []
spaced_text (text ∷ texts) = text ++ more_spaced texts
