-- The text in which a schedule is printed: of the spellings of each event, one.
use Rattle.std.specs.Prelude.{◌≡◌, ℕ, ◌≤◌, ◌^◌, ⊤, List, [], ◌∷◌, ◌++◌, length, Option, None, Some, decimal}
use Rattle.std.specs.List.{flat_map}
use Rattle.mur_base.specs.Ascii.{lf, space}
use Rattle.mur_base.specs.Names.{short_name_fault}
use Rattle.mur_base.specs.Number.{number_of}
use Rattle.mur_config.specs.declared.config.Config.{Config}
use Rattle.schedule_text.specs.declared.event.Event.{Event}
use Rattle.schedule_text.specs.declared.print.Argument.{Argument}
use Rattle.schedule_text.specs.declared.print.Argument.TheVariants.{Node, Number, Text}
use Rattle.schedule_text.specs.Text.{text_of, bytes_of}
use Rattle.schedule_text.specs.MayFollow.{AllMayFollow}
use Rattle.schedule_text.specs.Words.{Value, Saying, said_by, word_text}
use Rattle.schedule_text.specs.Words.Value.{a_node, a_number, a_text}

-- a name as it is, a number in decimal without leading zeros, bytes in their canonical text
unfoldable pub value_text : Value → List ℕ
value_text (a_node name) = name
value_text (a_number n) = decimal n
value_text (a_text bytes) = text_of bytes

unfoldable pub argument_text : Value → List ℕ
argument_text value = space ∷ value_text value

unfoldable pub values_text : List Value → List ℕ
values_text values = flat_map argument_text values

-- the word, and a space before each argument
unfoldable pub saying_line : Saying → List ℕ
saying_line saying = word_text saying.word ++ values_text saying.values

-- LF ends each line
unfoldable pub saying_text : Option Saying → List ℕ
saying_text None = []
saying_text (Some saying) = saying_line saying ++ lf ∷ []

unfoldable pub event_text : Event → List ℕ
event_text event = saying_text (said_by event)

-- the text of a schedule: the lines of its events, in order
unfoldable pub schedule_text : List Event → List ℕ
schedule_text events = flat_map event_text events

-- the names of nodes keep their rule, as those of each `NodeName` do
unfoldable pub AreNamed : List Value → Type 0
AreNamed [] = ⊤
AreNamed (a_node name ∷ values) = (short_name_fault name ≡ None) × AreNamed values
AreNamed (value ∷ values) = AreNamed values

abbrev pub CanBeSaid : Option Saying → Type 0
CanBeSaid None = ⊥
CanBeSaid (Some saying) = AreNamed saying.values

-- each event has a word
unfoldable pub AllHaveWords : List Event → Type 0
AllHaveWords [] = ⊤
AllHaveWords (event ∷ events) = CanBeSaid (said_by event) × AllHaveWords events

-- events that can be printed as a schedule: each has a word and may follow those before it, and the text isn't too long
pub record CanBePrinted (config : Config) (events : List Event) : Type 0 where
  pub worded : AllHaveWords events
  pub follow : AllMayFollow config [] events
  pub short : length (schedule_text events) ≤ 2 ^ 28

-- an argument of the printer, as what it stands for
abbrev pub argument_value : Argument → Value
argument_value (Node name) = a_node name.now
argument_value (Number n) = a_number n
argument_value (Text bytes) = a_text bytes.now

-- what is printed for a value stands for that value
abbrev pub IsReadBack : Value → Type 0
IsReadBack (a_node name) = ⊤
IsReadBack (a_number n) = number_of (decimal n) ≡ Some n
IsReadBack (a_text bytes) = bytes_of (text_of bytes) ≡ Some bytes

unfoldable pub AreReadBack : List Value → Type 0
AreReadBack [] = ⊤
AreReadBack (value ∷ values) = IsReadBack value × AreReadBack values

abbrev pub SaysWhatIsReadBack : Option Saying → Type 0
SaysWhatIsReadBack None = ⊤
SaysWhatIsReadBack (Some saying) = AreReadBack saying.values

unfoldable pub AllReadBack : List Event → Type 0
AllReadBack [] = ⊤
AllReadBack (event ∷ events) = SaysWhatIsReadBack (said_by event) × AllReadBack events
