-- The tags between the nodes of a cluster: that of a client's command is the number of its connection, `-`, and its own number in it.
use Rattle.std.specs.Prelude.{ℕ, ◌==◌, List, [], ◌∷◌, ◌++◌, Option, None, Some, if◌then◌else◌}
use Rattle.mur_base.specs.Ascii.{dash, space}
use Rattle.mur_base.specs.Number.{number_of}
use Rattle.mur_base.specs.declared.point.AskId.{AskId}
use Rattle.grammar.specs.Numbers.{decimal_text}
use Rattle.mupdate_codec.specs.declared.tag.Tag.{Tag}
use Rattle.mupdate_codec.specs.declared.tag.Tag.TheVariants.{Star, Text}

abbrev pub ask_text : AskId → List ℕ
ask_text ask = decimal_text ask.conn ++ dash ∷ decimal_text ask.command

unfoldable pub tag_of : AskId → Tag
tag_of ask = Text (ask_text ask)

-- the texts before and behind the first `-`, where one stands behind this text
unfoldable pub split_dash : List ℕ → List ℕ → Option (List ℕ × List ℕ)
split_dash front [] = None
split_dash front (b ∷ text) = if b == dash then Some (front, text) else split_dash (front ++ b ∷ []) text

-- two numbers, where both are
abbrev pub ask_by : Option ℕ → Option ℕ → Option AskId
ask_by (Some conn) (Some command) = Some (record { conn = conn; command = command })
ask_by conn command = None

abbrev pub ask_in : Option (List ℕ × List ℕ) → Option AskId
ask_in None = None
ask_in (Some parts) = ask_by (number_of parts.0) (number_of parts.1)

-- the client's command that a tag tells
unfoldable pub ask_id_of : Tag → Option AskId
ask_id_of Star = None
ask_id_of (Text text) = ask_in (split_dash [] text)

-- the bytes before the first space, or all where there is none
unfoldable pub first_word : List ℕ → List ℕ
first_word [] = []
first_word (b ∷ bytes) = if b == space then [] else b ∷ first_word bytes

-- the client's command whose line this is, by the tag alone: that is the first word of a command and of a response (RFC 3656, 3 and 4)
unfoldable pub line_ask : List ℕ → Option AskId
line_ask line = ask_id_of (Text (first_word line))
