-- The commands (RFC 3656, 4): a word in any case, and its arguments.
use Rattle.std.specs.Prelude.{ℕ, List, [], ◌∷◌, codes}
use Rattle.grammar.specs.Forms.{Form, Row, constant, dispatch, made, table, ◌spaced◌}
use Rattle.mupdate_codec.specs.declared.command.MCommand.{MCommand}
use Rattle.mupdate_codec.specs.declared.command.MCommand.TheVariants as command
use Rattle.mupdate_codec.specs.declared.word.Verb.{Verb}
use Rattle.mupdate_codec.specs.declared.word.Verb.TheVariants as verb
use Rattle.mupdate_codec.specs.declared.tag.Tag.{Tag}
use Rattle.mupdate_codec.specs.Arguments.{Texts, exact, maybe_string, a_name, a_place, a_mailbox, ended_line}
use Rattle.mupdate_codec.specs.Tags.{command_tag}

abbrev pub command_verbs : List (Row Verb)
command_verbs =
    (codes "ACTIVATE", verb.Activate) ∷ (codes "DEACTIVATE", verb.Deactivate) ∷ (codes "DELETE", verb.Delete) ∷ (codes "FIND", verb.Find)
    ∷ (codes "LIST", verb.List) ∷ (codes "LOGOUT", verb.Logout) ∷ (codes "NOOP", verb.Noop) ∷ (codes "RESERVE", verb.Reserve)
    ∷ (codes "UPDATE", verb.Update) ∷ []

unfoldable pub command_word : Verb → List ℕ
command_word verb.Activate = codes "ACTIVATE"
command_word verb.Deactivate = codes "DEACTIVATE"
command_word verb.Delete = codes "DELETE"
command_word verb.Find = codes "FIND"
command_word verb.List = codes "LIST"
command_word verb.Logout = codes "LOGOUT"
command_word verb.Noop = codes "NOOP"
command_word verb.Reserve = codes "RESERVE"
command_word verb.Update = codes "UPDATE"

abbrev pub command_verb_form : Form Verb
command_verb_form = table verb.Update command_verbs command_word

-- the word of each command, and how its arguments are printed
unfoldable pub command_printed_as : MCommand → Verb × List ℕ
command_printed_as (command.Reserve name place) = (verb.Reserve, (a_place exact).text (name, place))
command_printed_as (command.Activate name place acl) = (verb.Activate, (a_mailbox exact).text (name, (place, acl)))
command_printed_as (command.Deactivate name place) = (verb.Deactivate, (a_place exact).text (name, place))
command_printed_as (command.Delete name) = (verb.Delete, (a_name exact).text name)
command_printed_as (command.Find name) = (verb.Find, (a_name exact).text name)
command_printed_as (command.List prefix) = (verb.List, maybe_string.text prefix)
command_printed_as command.Update = (verb.Update, [])
command_printed_as command.Noop = (verb.Noop, [])
command_printed_as command.Logout = (verb.Logout, [])

abbrev pub command_verb : MCommand → Verb
command_verb it = (command_printed_as it).0

abbrev pub command_arguments_text : MCommand → List ℕ
command_arguments_text it = (command_printed_as it).1

-- what stands behind each word
unfoldable pub command_arguments : Texts → Verb → Form MCommand
command_arguments by verb.Activate = made (λ x. command.Activate x.0 x.1.0 x.1.1) command_arguments_text (a_mailbox by)
command_arguments by verb.Deactivate = made (λ x. command.Deactivate x.0 x.1) command_arguments_text (a_place by)
command_arguments by verb.Delete = made command.Delete command_arguments_text (a_name by)
command_arguments by verb.Find = made command.Find command_arguments_text (a_name by)
command_arguments by verb.List = made command.List command_arguments_text maybe_string
command_arguments by verb.Logout = constant command.Logout command_arguments_text
command_arguments by verb.Noop = constant command.Noop command_arguments_text
command_arguments by verb.Reserve = made (λ x. command.Reserve x.0 x.1) command_arguments_text (a_place by)
command_arguments by verb.Update = constant command.Update command_arguments_text

-- tag SP word arguments CRLF
unfoldable pub command_line : Texts → Form (Tag × MCommand)
command_line by = command_tag spaced ended_line (dispatch command_verb_form command_verb (command_arguments by))

-- the bytes are the line of this command under this tag
abbrev pub IsCommandLine : List ℕ → Tag × MCommand → Type 0
IsCommandLine bytes it = (command_line exact).part.lang bytes it

-- some line is the command under the tag
abbrev pub IsSpelledCommand : Tag → MCommand → Type 0
IsSpelledCommand tag it = (bytes : List ℕ) × IsCommandLine bytes (tag, it)
