-- The table of words: which word and which arguments say an event.
use Rattle.std.specs.Prelude.{ℕ, if◌then◌else◌, List, [], ◌∷◌, Option, None, Some, Result, Ok, Err, codes}
use Rattle.std.specs.Str.{bytes_eq}
use Rattle.schedule_text.specs.declared.event.Event.{Event}
use Rattle.schedule_text.specs.declared.event.Event.TheVariants.{Open, Data, Hang, Deliver, Cut, Join, Flow, Heal}
use Rattle.schedule_text.specs.declared.schedule.fault.Rule.{Rule}
use Rattle.schedule_text.specs.declared.schedule.fault.Rule.TheVariants.{UnknownWord}
use Rattle.schedule_text.specs.declared.words.Kind.{Kind}
use Rattle.schedule_text.specs.declared.words.Kind.TheVariants.{Node, Number, Text}
use Rattle.schedule_text.specs.declared.words.Word.{Word}
use Rattle.schedule_text.specs.declared.words.Word.TheVariants.{Open as open_word, Data as data_word, Hang as hang_word, Deliver as deliver_word, Cut as cut_word, Join as join_word, Flow as flow_word, Heal as heal_word}

-- what an argument stands for: a node's name, a number, or bytes
pub data Value : Type 0 where
  a_node : List ℕ → Value
  a_number : ℕ → Value
  a_text : List ℕ → Value

-- a word and what its arguments stand for
pub record Saying : Type 0 where
  pub word : Word
  pub values : List Value

abbrev pub row : Word → List Value → Option Saying
row word values = Some (record { word = word; values = values })

-- how an event is said: a row for each word, and nothing for an event that has no word yet
unfoldable pub said_by : Event → Option Saying
said_by (Open node conn) = row open_word (a_node node ∷ a_number conn ∷ [])
said_by (Data conn bytes) = row data_word (a_number conn ∷ a_text bytes ∷ [])
said_by (Hang conn) = row hang_word (a_number conn ∷ [])
said_by (Deliver from to) = row deliver_word (a_node from ∷ a_node to ∷ [])
said_by (Cut one other kept kept_back) = row cut_word (a_node one ∷ a_node other ∷ a_number kept ∷ a_number kept_back ∷ [])
said_by (Join one other) = row join_word (a_node one ∷ a_node other ∷ [])
said_by (Flow count) = row flow_word (a_number count ∷ [])
said_by Heal = row heal_word []
said_by _ = None

unfoldable pub word_text : Word → List ℕ
word_text open_word = codes "open"
word_text data_word = codes "data"
word_text hang_word = codes "hang"
word_text deliver_word = codes "deliver"
word_text cut_word = codes "cut"
word_text join_word = codes "join"
word_text flow_word = codes "flow"
word_text heal_word = codes "heal"

-- the kinds of a word's arguments, in order
unfoldable pub kinds_of : Word → List Kind
kinds_of open_word = Node ∷ Number ∷ []
kinds_of data_word = Number ∷ Text ∷ []
kinds_of hang_word = Number ∷ []
kinds_of deliver_word = Node ∷ Node ∷ []
kinds_of cut_word = Node ∷ Node ∷ Number ∷ Number ∷ []
kinds_of join_word = Node ∷ Node ∷ []
kinds_of flow_word = Number ∷ []
kinds_of heal_word = []

-- the rows of the table
abbrev pub all_words : List Word
all_words = open_word ∷ data_word ∷ hang_word ∷ deliver_word ∷ cut_word ∷ join_word ∷ flow_word ∷ heal_word ∷ []

unfoldable pub word_among : List Word → List ℕ → Result Word Rule
word_among [] text = Err UnknownWord
word_among (word ∷ words) text = if bytes_eq text (word_text word) then Ok word else word_among words text

-- the word that a text is
unfoldable pub word_named : List ℕ → Result Word Rule
word_named text = word_among all_words text
