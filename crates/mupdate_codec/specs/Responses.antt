-- The responses (RFC 3656, 3): a word in any case, and its arguments.
use Rattle.std.specs.Prelude.{ℕ, List, [], ◌∷◌, codes}
use Rattle.grammar.specs.Forms.{Form, Row, dispatch, made, table, ◌spaced◌}
use Rattle.mupdate_codec.specs.declared.command.MResponse.{MResponse}
use Rattle.mupdate_codec.specs.declared.command.MResponse.TheVariants as response
use Rattle.mupdate_codec.specs.declared.word.Kind.{Kind}
use Rattle.mupdate_codec.specs.declared.word.Kind.TheVariants as kind
use Rattle.mupdate_codec.specs.declared.tag.Tag.{Tag}
use Rattle.mupdate_codec.specs.Arguments.{Texts, exact, a_string, a_name, a_place, a_mailbox, ended_line}
use Rattle.mupdate_codec.specs.Tags.{response_tag}

abbrev pub kinds : List (Row Kind)
kinds =
    (codes "BAD", kind.Bad) ∷ (codes "DELETE", kind.Delete) ∷ (codes "MAILBOX", kind.Mailbox) ∷ (codes "NO", kind.No) ∷ (codes "OK", kind.Ok)
    ∷ (codes "RESERVE", kind.Reserve) ∷ []

unfoldable pub response_word : Kind → List ℕ
response_word kind.Bad = codes "BAD"
response_word kind.Delete = codes "DELETE"
response_word kind.Mailbox = codes "MAILBOX"
response_word kind.No = codes "NO"
response_word kind.Ok = codes "OK"
response_word kind.Reserve = codes "RESERVE"

abbrev pub kind_form : Form Kind
kind_form = table kind.Bad kinds response_word

-- the word of each response, and how its arguments are printed
unfoldable pub response_printed_as : MResponse → Kind × List ℕ
response_printed_as (response.Mailbox name place acl) = (kind.Mailbox, (a_mailbox exact).text (name, (place, acl)))
response_printed_as (response.Reserve name place) = (kind.Reserve, (a_place exact).text (name, place))
response_printed_as (response.Delete name) = (kind.Delete, (a_name exact).text name)
response_printed_as (response.Ok text) = (kind.Ok, a_string.text text)
response_printed_as (response.No text) = (kind.No, a_string.text text)
response_printed_as (response.Bad text) = (kind.Bad, a_string.text text)

abbrev pub response_kind : MResponse → Kind
response_kind it = (response_printed_as it).0

abbrev pub response_arguments_text : MResponse → List ℕ
response_arguments_text it = (response_printed_as it).1

-- what stands behind each word
unfoldable pub response_arguments : Texts → Kind → Form MResponse
response_arguments by kind.Bad = made response.Bad response_arguments_text a_string
response_arguments by kind.Delete = made response.Delete response_arguments_text (a_name by)
response_arguments by kind.Mailbox = made (λ x. response.Mailbox x.0 x.1.0 x.1.1) response_arguments_text (a_mailbox by)
response_arguments by kind.No = made response.No response_arguments_text a_string
response_arguments by kind.Ok = made response.Ok response_arguments_text a_string
response_arguments by kind.Reserve = made (λ x. response.Reserve x.0 x.1) response_arguments_text (a_place by)

-- tag SP word arguments CRLF
unfoldable pub response_line : Texts → Form (Tag × MResponse)
response_line by = response_tag spaced ended_line (dispatch kind_form response_kind (response_arguments by))

-- the bytes are the line of this response under this tag
abbrev pub IsResponseLine : List ℕ → Tag × MResponse → Type 0
IsResponseLine bytes it = (response_line exact).part.lang bytes it

-- some line is the response under the tag
abbrev pub IsSpelledResponse : Tag → MResponse → Type 0
IsSpelledResponse tag it = (bytes : List ℕ) × IsResponseLine bytes (tag, it)
