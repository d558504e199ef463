-- The lines of commands and responses: their laws.
use Rattle.std.proofs.Common.{◌≡◌, ℕ, [], ◌∷◌, ◌==◌, Bool, true, ◌||◌, refl, ap, eqb-true, arith}
use Rattle.grammar.specs.Exact.{any, among}
use Rattle.grammar.specs.Forms.{Form, Law, as_it_stands, preceded, constant, dispatch, followed, nothing, ◌spaced◌, begins_row}
use Rattle.grammar.specs.Words.{word, Lawful, Apart}
use Rattle.grammar.proofs.Conditions.{and_left}
use Rattle.grammar.proofs.FormLaw.{Branch, Within, branch, one_byte, law_behind, law_constant, law_dispatch, law_either, law_followed, law_made, law_maybe, law_nothing, law_spaced, law_weaker}
use Rattle.grammar.proofs.NamesLaw.{law_table}
use Rattle.grammar.proofs.RunLaw.{lawful_run_upto, apart_run_upto}
use Rattle.grammar.proofs.StartLaw.{starts_word, begins_from}
use Rattle.grammar.proofs.WordLaw.{good_word}
use Rattle.mupdate_codec.specs.declared.command.MCommand.TheVariants as command
use Rattle.mupdate_codec.specs.declared.command.MResponse.TheVariants as response
use Rattle.mupdate_codec.specs.declared.tag.Tag.TheVariants.{Star, Text}
use Rattle.mupdate_codec.specs.declared.word.Verb.{Verb}
use Rattle.mupdate_codec.specs.declared.word.Verb.TheVariants as verb
use Rattle.mupdate_codec.specs.declared.word.Kind.{Kind}
use Rattle.mupdate_codec.specs.declared.word.Kind.TheVariants as kind
use Rattle.mupdate_codec.specs.declared.limits.TheConstants.{TAG_MOST}
use Rattle.mupdate_codec.specs.Characters.{is_mupdate_tag_byte}
use Rattle.mupdate_codec.specs.Arguments.{exact, a_string, maybe_string, a_name, a_place, a_mailbox, ended_line}
use Rattle.mupdate_codec.specs.Strings.{string_form, name_form, location_form}
use Rattle.mupdate_codec.specs.Tags.{mupdate_tag_text, mupdate_tags, command_tag, response_tag}
use Rattle.mupdate_codec.specs.Commands as of_commands
use Rattle.mupdate_codec.specs.Commands.{command_line, command_word, command_verb_form, command_verbs}
use Rattle.mupdate_codec.specs.Responses as of_responses
use Rattle.mupdate_codec.specs.Responses.{response_line, response_word, kind_form, kinds}
use Rattle.mupdate_codec.proofs.StringsPrinted.{law_string, law_name, law_location}

-- a space or the end of the line
abbrev pub ends_word : ℕ → Bool
ends_word = among (32 ∷ 13 ∷ [])

-- the end of the line
abbrev pub ends_line : ℕ → Bool
ends_line c = c == 13

line_ends_word : Within ends_line ends_word
line_ends_word = one_byte 13 ends_word refl

-- what stands behind a space, up to the end of the line
behind_word : {A : Type 0} {starts wide : ℕ → Bool} (p : Form A) → wide 13 ≡ true → Law starts wide p → Law ends_word ends_line (preceded 32 p)
behind_word {A} {starts} {wide} p is g =
    law_weaker ends_word ends_line (preceded 32 p) (one_byte 32 ends_word refl) (one_byte 13 wide is) (law_behind 32 p g)

pub law_a_string : Law ends_word ends_line a_string
law_a_string = behind_word string_form refl law_string

pub law_a_name : Law ends_word ends_line (a_name exact)
law_a_name = behind_word name_form refl law_name

pub law_a_place : Law ends_word ends_line (a_place exact)
law_a_place = behind_word (name_form spaced location_form) refl (law_spaced name_form location_form refl law_name law_location)

pub law_a_mailbox : Law ends_word ends_line (a_mailbox exact)
law_a_mailbox =
    behind_word (name_form spaced (location_form spaced string_form)) refl
    (law_spaced name_form (location_form spaced string_form) refl law_name (law_spaced location_form string_form refl law_location law_string))

pub law_maybe_string : Law ends_word ends_line maybe_string
law_maybe_string =
    law_weaker ends_word ends_line maybe_string (λ c h. h) (one_byte 13 line_only refl)
    (law_maybe line_only 32 string_form refl (law_weaker any line_only string_form (λ c h. h) (λ c h. refl) law_string))
  where
    line_only : ℕ → Bool
    line_only = among (13 ∷ [])

-- no arguments
law_none : Law ends_word ends_line nothing
law_none = law_weaker ends_word ends_line nothing line_ends_word (λ c h. h) (law_nothing ends_line)

pub law_line : {A : Type 0} {starts : ℕ → Bool} (p : Form A) → Law starts ends_line p → Law starts any (ended_line p)
law_line p g = law_followed any 10 (followed p 13) refl (law_followed (λ c. c == 10) 13 p refl g)

-- tags

abbrev pub is_space : ℕ → Bool
is_space c = c == 32

pub lawful_tags : Lawful mupdate_tags
unfolding is_mupdate_tag_byte
lawful_tags = lawful_run_upto is_mupdate_tag_byte TAG_MOST 97 refl (omega arith)

pub apart_tags : Apart mupdate_tags is_space
unfolding is_mupdate_tag_byte
apart_tags = apart_run_upto is_mupdate_tag_byte TAG_MOST is_space (λ c h. ap is_mupdate_tag_byte (eqb-true c 32 h))

pub law_tags : Law is_mupdate_tag_byte is_space (as_it_stands mupdate_tags)
law_tags = record {
  good = λ V. good_word mupdate_tags lawful_tags is_space apart_tags;
  begins = begins_from is_space (word mupdate_tags) (starts_word mupdate_tags is_mupdate_tag_byte lawful_tags refl (λ c h. and_left (is_mupdate_tag_byte c) true (and_left _ _ h)));
  prints = λ bytes text l. (refl, l.1);
}

pub law_command_tag : Law is_mupdate_tag_byte is_space command_tag
unfolding mupdate_tag_text
law_command_tag = law_made Text mupdate_tag_text (as_it_stands mupdate_tags) (λ a. refl) law_tags

pub law_response_tag : Law (λ b. (b == 42) || is_mupdate_tag_byte b) is_space response_tag
unfolding mupdate_tag_text is_mupdate_tag_byte
law_response_tag =
    law_either 42 mupdate_tag_text (constant Star (λ _. [])) command_tag refl (λ bytes a j. ap mupdate_tag_text j.goes_on.1) (λ bytes a l. refl)
    (law_constant is_space Star (λ _. []) refl) law_command_tag

-- commands

pub command_branch : (v : Verb) → Branch ends_word ends_line of_commands.command_verb v (of_commands.command_arguments exact v)
unfolding Rattle.mupdate_codec.specs.Commands.command_arguments Rattle.mupdate_codec.specs.Commands.command_printed_as
command_branch verb.Activate =
    branch of_commands.command_verb verb.Activate (λ x. command.Activate x.0 x.1.0 x.1.1) of_commands.command_arguments_text (a_mailbox exact) law_a_mailbox (λ x. (refl, refl))
command_branch verb.Deactivate =
    branch of_commands.command_verb verb.Deactivate (λ x. command.Deactivate x.0 x.1) of_commands.command_arguments_text (a_place exact) law_a_place (λ x. (refl, refl))
command_branch verb.Delete = branch of_commands.command_verb verb.Delete command.Delete of_commands.command_arguments_text (a_name exact) law_a_name (λ x. (refl, refl))
command_branch verb.Find = branch of_commands.command_verb verb.Find command.Find of_commands.command_arguments_text (a_name exact) law_a_name (λ x. (refl, refl))
command_branch verb.List = branch of_commands.command_verb verb.List command.List of_commands.command_arguments_text maybe_string law_maybe_string (λ x. (refl, refl))
command_branch verb.Logout = branch of_commands.command_verb verb.Logout (λ _. command.Logout) of_commands.command_arguments_text nothing law_none (λ _. (refl, refl))
command_branch verb.Noop = branch of_commands.command_verb verb.Noop (λ _. command.Noop) of_commands.command_arguments_text nothing law_none (λ _. (refl, refl))
command_branch verb.Reserve =
    branch of_commands.command_verb verb.Reserve (λ x. command.Reserve x.0 x.1) of_commands.command_arguments_text (a_place exact) law_a_place (λ x. (refl, refl))
command_branch verb.Update = branch of_commands.command_verb verb.Update (λ _. command.Update) of_commands.command_arguments_text nothing law_none (λ _. (refl, refl))

pub law_command : Law (begins_row command_verbs) ends_line (dispatch command_verb_form of_commands.command_verb (of_commands.command_arguments exact))
unfolding command_word
law_command =
    law_dispatch command_verb_form of_commands.command_verb (of_commands.command_arguments exact) (law_table verb.Update command_verbs command_word refl refl (32 ∷ 13 ∷ []) refl refl) command_branch

pub law_command_line : Law is_mupdate_tag_byte any (command_line exact)
unfolding command_line
law_command_line =
    law_spaced command_tag (ended_line (dispatch command_verb_form of_commands.command_verb (of_commands.command_arguments exact))) refl law_command_tag
    (law_line (dispatch command_verb_form of_commands.command_verb (of_commands.command_arguments exact)) law_command)

-- responses

pub response_branch : (k : Kind) → Branch ends_word ends_line of_responses.response_kind k (of_responses.response_arguments exact k)
unfolding Rattle.mupdate_codec.specs.Responses.response_arguments Rattle.mupdate_codec.specs.Responses.response_printed_as
response_branch kind.Bad = branch of_responses.response_kind kind.Bad response.Bad of_responses.response_arguments_text a_string law_a_string (λ x. (refl, refl))
response_branch kind.Delete = branch of_responses.response_kind kind.Delete response.Delete of_responses.response_arguments_text (a_name exact) law_a_name (λ x. (refl, refl))
response_branch kind.Mailbox =
    branch of_responses.response_kind kind.Mailbox (λ x. response.Mailbox x.0 x.1.0 x.1.1) of_responses.response_arguments_text (a_mailbox exact) law_a_mailbox (λ x. (refl, refl))
response_branch kind.No = branch of_responses.response_kind kind.No response.No of_responses.response_arguments_text a_string law_a_string (λ x. (refl, refl))
response_branch kind.Ok = branch of_responses.response_kind kind.Ok response.Ok of_responses.response_arguments_text a_string law_a_string (λ x. (refl, refl))
response_branch kind.Reserve =
    branch of_responses.response_kind kind.Reserve (λ x. response.Reserve x.0 x.1) of_responses.response_arguments_text (a_place exact) law_a_place (λ x. (refl, refl))

pub law_response : Law (begins_row kinds) ends_line (dispatch kind_form of_responses.response_kind (of_responses.response_arguments exact))
unfolding response_word
law_response =
    law_dispatch kind_form of_responses.response_kind (of_responses.response_arguments exact) (law_table kind.Bad kinds response_word refl refl (32 ∷ 13 ∷ []) refl refl) response_branch

pub law_response_line : Law (λ b. (b == 42) || is_mupdate_tag_byte b) any (response_line exact)
unfolding response_line
law_response_line =
    law_spaced response_tag (ended_line (dispatch kind_form of_responses.response_kind (of_responses.response_arguments exact))) refl law_response_tag
    (law_line (dispatch kind_form of_responses.response_kind (of_responses.response_arguments exact)) law_response)
