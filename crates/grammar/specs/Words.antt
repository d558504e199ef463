-- Words: sets of byte strings that are read to the longest of their prefixes.
use Rattle.std.specs.Prelude.{◌≡◌, ℕ, Bool, true, false, cond, List, [], ◌∷◌, ◌++◌, length, Result, Ok, Err}
use Rattle.grammar.specs.Part.{Part}

-- a set of words by two tests: a text that begins a word, a text that is one
pub record Words : Type 0 where
  pub begins : List ℕ → Bool
  pub whole : List ℕ → Bool

-- the text so far is a word, or reading stops behind it
abbrev pub halt : Bool → List ℕ → List ℕ → Result (List ℕ × List ℕ) ℕ
halt true front rest = Ok (front, rest)
halt false front rest = Err (length rest)

-- goes on as long as the text with the next byte begins a word
abbrev pub scan : Words → List ℕ → List ℕ → Result (List ℕ × List ℕ) ℕ
scan w front [] = halt (w.whole front) front []
scan w front (c ∷ rest) = cond (w.begins (front ++ c ∷ [])) (scan w (front ++ c ∷ []) rest) (halt (w.whole front) front (c ∷ rest))

-- a word, which is its own value
abbrev pub word : Words → Part (List ℕ)
word w = record { lang = λ s v. (s ≡ v) × (w.whole v ≡ true); at = scan w [] }

-- the tests belong to one set of words: the empty text begins one, what begins with no word begins none, a word begins
-- itself, and each text that begins a word goes on to one
pub record Lawful (w : Words) : Type 0 where
  pub empty_begins : w.begins [] ≡ true
  pub front : (s t : List ℕ) → w.begins (s ++ t) ≡ true → w.begins s ≡ true
  pub whole : (s : List ℕ) → w.whole s ≡ true → w.begins s ≡ true
  pub goes_on : (s : List ℕ) → w.begins s ≡ true → (t : List ℕ) × (w.whole (s ++ t) ≡ true)

-- no word goes on with a byte that passes the test
abbrev pub Apart : Words → (ℕ → Bool) → Type 0
Apart w set = (s : List ℕ) → w.whole s ≡ true → (c : ℕ) → set c ≡ true → w.begins (s ++ c ∷ []) ≡ false
