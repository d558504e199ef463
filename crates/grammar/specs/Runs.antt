-- Words of bytes that pass a test.
use Rattle.std.specs.Prelude.{ℕ, Bool, true, false, ◌&&◌, nat_le, List, [], ◌∷◌, length}
use Rattle.std.specs.List.{list_all}
use Rattle.grammar.specs.Words.{Words}

-- a text with a byte
abbrev pub some : List ℕ → Bool
some [] = false
some (c ∷ rest) = true

-- one byte or more that pass the test (RFC 5234, 3.6: 1*X)
abbrev pub run_of : (ℕ → Bool) → Words
run_of test = record { begins = list_all test; whole = λ s. list_all test s && some s }

-- one byte to `most` bytes that pass the test (RFC 5234, 3.6: 1*nX)
abbrev pub run_upto : ℕ → (ℕ → Bool) → Words
run_upto most test = record { begins = λ s. list_all test s && nat_le (length s) most; whole = λ s. list_all test s && nat_le (length s) most && some s }
