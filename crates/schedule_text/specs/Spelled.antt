-- What the lines of bytes spell, said of the lines and their words alone.
use Rattle.std.specs.Prelude.{◌≡◌, ℕ, ◌<◌, ◌⊎◌, false, ◌==◌, List, [], ◌∷◌, ◌++◌, length, Option, None, Some, codes}
use Rattle.std.specs.List.{list_any}
use Rattle.mur_base.specs.Ascii.{lf, cr, space, ends_with_cr}
use Rattle.mur_base.specs.Number.{number_of}
use Rattle.schedule_text.specs.declared.event.Event.{Event}
use Rattle.schedule_text.specs.Text.{bytes_of}
use Rattle.schedule_text.specs.Words.{Value, Saying, said_by, word_text}
use Rattle.schedule_text.specs.Words.Value.{a_node, a_number, a_text}

-- a byte is none of these
abbrev pub Lacks : ℕ → List ℕ → Type 0
Lacks byte text = list_any (λ b. b == byte) text ≡ false

-- what stands before an LF is this line: a CR at its end is dropped
abbrev pub IsBeforeLf : List ℕ → List ℕ → Type 0
IsBeforeLf text line = (text ≡ line ++ cr ∷ []) ⊎ ((text ≡ line) × (ends_with_cr text ≡ false))

-- the lines of bytes: LF ends each; the last may lack it
pub data AreLinesOf : List ℕ → List (List ℕ) → Type 0 where
  no_bytes : AreLinesOf [] []
  without_lf : (line : List ℕ) → 0 < length line → Lacks lf line → AreLinesOf line (line ∷ [])
  with_lf : (text line rest : List ℕ) (lines : List (List ℕ)) → Lacks lf text → IsBeforeLf text line → AreLinesOf rest lines
      → AreLinesOf (text ++ lf ∷ rest) (line ∷ lines)

-- one or more bytes, and no space among them
pub record IsWord (text : List ℕ) : Type 0 where
  pub some : 0 < length text
  pub whole : Lacks space text

-- an argument spells what it stands for: a name by itself, a number in decimal, bytes by a text in any of its forms
abbrev pub SpellsValue : List ℕ → Value → Type 0
SpellsValue argument (a_node name) = (argument ≡ name) × IsWord argument
SpellsValue argument (a_number n) = number_of argument ≡ Some n
SpellsValue argument (a_text bytes) = bytes_of argument ≡ Some bytes

-- one argument after another, a space before each
pub data AreArguments : List ℕ → List Value → Type 0 where
  no_more : AreArguments [] []
  one_more : (argument rest : List ℕ) (value : Value) (values : List Value) → SpellsValue argument value → AreArguments rest values
      → AreArguments (space ∷ argument ++ rest) (value ∷ values)

-- a line is a word and its arguments
pub record IsLineOf (line : List ℕ) (saying : Saying) : Type 0 where
  pub rest : List ℕ
  pub spelled : line ≡ word_text saying.word ++ rest
  pub arguments : AreArguments rest saying.values

abbrev pub IsSpelledAs : List ℕ → Option Saying → Type 0
IsSpelledAs line None = ⊥
IsSpelledAs line (Some saying) = IsLineOf line saying

-- a line spells an event: it is a line of the event's row in the table of words
abbrev pub IsSpelledBy : List ℕ → Event → Type 0
IsSpelledBy line event = IsSpelledAs line (said_by event)

-- an empty line, or a comment
abbrev pub IsPassedOver : List ℕ → Type 0
IsPassedOver line = (line ≡ []) ⊎ ((text : List ℕ) × (line ≡ codes "#" ++ text))

-- the events that lines spell, in order: one for each line that isn't passed over
pub data AreSpelledBy : List (List ℕ) → List Event → Type 0 where
  no_lines : AreSpelledBy [] []
  passed : (line : List ℕ) (lines : List (List ℕ)) (events : List Event) → IsPassedOver line → AreSpelledBy lines events → AreSpelledBy (line ∷ lines) events
  spelled : (line : List ℕ) (event : Event) (lines : List (List ℕ)) (events : List Event) → IsSpelledBy line event → AreSpelledBy lines events
      → AreSpelledBy (line ∷ lines) (event ∷ events)

-- the events that the lines of bytes spell
pub record SpellEvents (bytes : List ℕ) (events : List Event) : Type 0 where
  pub lines : List (List ℕ)
  pub cut : AreLinesOf bytes lines
  pub spelled : AreSpelledBy lines events
