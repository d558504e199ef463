-- Words that are one of some texts, byte by byte.
use Rattle.std.specs.Prelude.{ℕ, Bool, true, ◌&&◌, ◌==◌, List, [], ◌∷◌}
use Rattle.std.specs.List.{list_all, list_any}
use Rattle.grammar.specs.Runs.{some}
use Rattle.grammar.specs.Tables.{starts_by, is_by}
use Rattle.grammar.specs.Words.{Words}

-- the text begins with these bytes
abbrev pub begins_with : List ℕ → List ℕ → Bool
begins_with = starts_by (λ d c. d == c)

-- some text begins with these bytes
abbrev pub begins_some_of : List (List ℕ) → List ℕ → Bool
begins_some_of texts [] = true
begins_some_of texts (c ∷ front) = list_any (λ text. begins_with text (c ∷ front)) texts

-- the text is these bytes
abbrev pub is_same : List ℕ → List ℕ → Bool
is_same = is_by (λ d c. d == c)

-- the texts, of bytes that pass a test
abbrev pub members : (ℕ → Bool) → List (List ℕ) → Words
members test texts = record {
  begins = λ s. list_all test s && begins_some_of texts s;
  whole = λ s. list_all test s && (some s && list_any (λ text. is_same text s) texts);
}
