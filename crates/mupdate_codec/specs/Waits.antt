-- Whether bytes begin a line, by its reading; and what is known of a line that has begun.
use Rattle.std.specs.Prelude.{◌≡◌, ℕ, ◌-◌, ◌≤◌, Bool, true, false, ◌==◌, List, [], ◌∷◌, ◌++◌, length, take, Option, None, Some, Result, Ok, Err}
use Rattle.mur_base.specs.Ascii.{lf}
use Rattle.grammar.specs.Part.{Part, ◌sp◌}
use Rattle.grammar.specs.Words.{word}
use Rattle.mupdate_codec.specs.declared.word.Verb.{Verb}
use Rattle.mupdate_codec.specs.declared.word.Verb.TheVariants as verb
use Rattle.mupdate_codec.specs.declared.limits.TheConstants.{STRING_LIMIT}
use Rattle.mupdate_codec.specs.Arguments.{exact}
use Rattle.mupdate_codec.specs.Commands.{command_line, command_verb_form}
use Rattle.mupdate_codec.specs.Cut.{EndsLine}
use Rattle.mupdate_codec.specs.Strings.{header, name, location}
use Rattle.mupdate_codec.specs.Tags.{mupdate_tags}

abbrev pub stops_at_end : {A : Type 0} → Result (A × List ℕ) ℕ → Bool
stops_at_end (Ok x) = false
stops_at_end (Err left) = left == 0

-- the bytes begin a line
unfoldable pub goes_on : List ℕ → Bool
goes_on bytes = stops_at_end ((command_line exact).part.at bytes)

-- no bytes
abbrev pub nowhere : {A : Type 0} → Part A
nowhere = record { lang = λ s v. ⊥; at = λ bytes. Err (length bytes) }

-- what stands behind the word of a command and a space, up to the end of the header of a literal that may be any text
unfoldable pub up_to_any : Verb → Part ℕ
up_to_any verb.Activate = name sp λ _. location sp λ _. header 0 STRING_LIMIT
up_to_any verb.List = header 0 STRING_LIMIT
up_to_any it = nowhere

-- the front of a line up to the end of that header
unfoldable pub head : Part ℕ
head = word mupdate_tags sp λ _. command_verb_form.part sp up_to_any

-- how many octets are to come of a literal of so many, of which these have come
abbrev pub yet_to_come : Result (ℕ × List ℕ) ℕ → ℕ
yet_to_come (Ok x) = x.0 - length x.1
yet_to_come (Err left) = 0

-- how many octets are to come of a literal that may be any text and has begun
unfoldable pub octets_left : List ℕ → ℕ
octets_left bytes = yet_to_come (head.at bytes)

-- a line that has begun, and how many octets are to come of a literal that may be any text
pub record HasBegunLine (bytes : List ℕ) (left : ℕ) : Type 0 where
  pub uncut : (front rest : List ℕ) → bytes ≡ front ++ lf ∷ rest → goes_on (front ++ lf ∷ []) ≡ true
  pub left_is : left ≡ octets_left bytes

-- an LF has come behind a line that has begun
pub record Ended (bytes : List ℕ) : Type 0 where
  pub front : List ℕ
  pub parts : bytes ≡ front ++ lf ∷ []
  pub holds : HasBegunLine front 0

-- so many bytes of the piece are taken, and the line, if there is one, ends with the last of them
abbrev pub TakesSome : List ℕ → List ℕ → Option (List ℕ) → ℕ → List ℕ → Type 0
TakesSome begun piece (Some line) taken after = (taken ≤ length piece) × (line ≡ begun ++ take taken piece) × EndsLine line × (after ≡ [])
TakesSome begun piece None taken after = (taken ≤ length piece) × (after ≡ begun ++ take taken piece)
