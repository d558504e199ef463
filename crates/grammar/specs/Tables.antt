-- Words of a table, in any case of letters (RFC 5234, 2.3).
use Rattle.std.specs.Prelude.{ℕ, Bool, true, false, ◌&&◌, not, List, [], ◌∷◌}
use Rattle.std.specs.List.{list_all, list_any}
use Rattle.std.specs.Char.{eq_ignore_ascii_case}
use Rattle.grammar.specs.Words.{Words}

-- the name begins with the text, letter by letter
abbrev pub starts_by : (ℕ → ℕ → Bool) → List ℕ → List ℕ → Bool
starts_by same name [] = true
starts_by same [] (c ∷ text) = false
starts_by same (n ∷ name) (c ∷ text) = same n c && starts_by same name text

-- the name is the text, letter by letter
abbrev pub is_by : (ℕ → ℕ → Bool) → List ℕ → List ℕ → Bool
is_by same [] [] = true
is_by same [] (c ∷ text) = false
is_by same (n ∷ name) [] = false
is_by same (n ∷ name) (c ∷ text) = same n c && is_by same name text

-- the name begins with the text, in any case
abbrev pub starts_name : List ℕ → List ℕ → Bool
starts_name = starts_by eq_ignore_ascii_case

-- the name is the text, in any case
abbrev pub is_name : List ℕ → List ℕ → Bool
is_name = is_by eq_ignore_ascii_case

-- some name begins with the text, in any case
abbrev pub begins_some : List (List ℕ) → List ℕ → Bool
begins_some names [] = true
begins_some names (c ∷ text) = list_any (λ name. starts_name name (c ∷ text)) names

-- the names, in any case
abbrev pub any_case : List (List ℕ) → Words
any_case names = record { begins = begins_some names; whole = λ text. list_any (λ name. is_name name text) names }

-- no letter of the name is the byte in any case
abbrev pub lacks : ℕ → List ℕ → Bool
lacks c name = list_all (λ n. not (eq_ignore_ascii_case n c)) name
