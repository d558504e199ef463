-- The words of a schedule's line: each but the first has one space before it.
use Rattle.std.specs.Prelude.{◌≡◌, ℕ, ◌==◌, nat_lt, if◌then◌else◌, List, [], ◌∷◌, ◌++◌, length, Result, Ok, Err}
use Rattle.std.specs.Option.{ok_or}
use Rattle.mur_base.specs.Ascii.{space}
use Rattle.mur_base.specs.Number.{number_of}
use Rattle.schedule_text.specs.declared.schedule.fault.Rule.{Rule}
use Rattle.schedule_text.specs.declared.schedule.fault.Rule.TheVariants.{WrongCount, BadNumber}
use Rattle.schedule_text.specs.declared.schedule.words.Cut.{Cut}
use Rattle.schedule_text.specs.declared.words.Kind.{Kind}
use Rattle.schedule_text.specs.declared.words.Kind.TheVariants.{Text}
use Rattle.schedule_text.specs.ScheduleRules.{◌>>=◌}

-- a word and the text after it: empty, or a space and more
pub record WordAndRest : Type 0 where
  pub word : List ℕ
  pub rest : List ℕ

abbrev pub shown : Cut → WordAndRest
shown cut = record { word = cut.word.now; rest = cut.rest.now }

abbrev pub IsCutAs : Result WordAndRest Rule → Result Cut Rule → Type 0
IsCutAs words (Ok cut) = words ≡ Ok (shown cut)
IsCutAs words (Err rule) = words ≡ Err rule

abbrev pub onto_word : ℕ → WordAndRest → WordAndRest
onto_word b words = record { word = b ∷ words.word; rest = words.rest }

-- a text up to its first space, and from there on
unfoldable pub split_word : List ℕ → WordAndRest
split_word [] = record { word = []; rest = [] }
split_word (b ∷ text) = if b == space then (record { word = []; rest = b ∷ text }) else onto_word b (split_word text)

-- a word that has bytes
unfoldable pub word_in : List ℕ → Result WordAndRest Rule
word_in text = if nat_lt 0 (length (split_word text).word) then Ok (split_word text) else Err WrongCount

-- a text is all that is left, another argument is one word
unfoldable pub argument_in : Kind → List ℕ → Result WordAndRest Rule
argument_in Text text = Ok (record { word = text; rest = [] })
argument_in kind text = word_in text

-- the argument after a space
unfoldable pub first_argument : Kind → List ℕ → Result WordAndRest Rule
first_argument kind [] = Err WrongCount
first_argument kind (b ∷ text) = if b == space then argument_in kind text else Err WrongCount

-- the arguments of these kinds after a word, and nothing after them
unfoldable pub arguments_in : List Kind → List ℕ → Result (List (List ℕ)) Rule
arguments_in [] [] = Ok []
arguments_in [] (b ∷ rest) = Err WrongCount
arguments_in (kind ∷ kinds) rest = do
  words ← first_argument kind rest
  arguments ← arguments_in kinds words.rest
  Ok (words.word ∷ arguments)

-- arguments after those that were cut before
unfoldable pub with_arguments : List (List ℕ) → Result (List (List ℕ)) Rule → Result (List (List ℕ)) Rule
with_arguments before (Ok more) = Ok (before ++ more)
with_arguments before (Err rule) = Err rule

-- the number that a word is
unfoldable pub number_of_word : List ℕ → Result ℕ Rule
number_of_word word = ok_or (number_of word) BadNumber
