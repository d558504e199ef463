-- Lines that tell the places of their names and locations are read as the same lines.
use Rattle.std.proofs.Common.{ℕ, [], ◌∷◌, refl}
use Rattle.grammar.specs.Part.{Part, map, byte}
use Rattle.grammar.specs.Exact.{any}
use Rattle.grammar.specs.Forms.{Form, dispatch, followed}
use Rattle.grammar.proofs.NamesLaw.{law_table}
use Rattle.grammar.proofs.SequenceLaw.{good_map}
use Rattle.grammar.proofs.ToolLaws.{good_byte}
use Rattle.mupdate_codec.specs.declared.command.MCommand.{MCommand}
use Rattle.mupdate_codec.specs.declared.command.MCommand.TheVariants as command
use Rattle.mupdate_codec.specs.declared.command.MResponse.{MResponse}
use Rattle.mupdate_codec.specs.declared.command.MResponse.TheVariants as response
use Rattle.mupdate_codec.specs.declared.word.Verb.{Verb}
use Rattle.mupdate_codec.specs.declared.word.Verb.TheVariants as verb
use Rattle.mupdate_codec.specs.declared.word.Kind.{Kind}
use Rattle.mupdate_codec.specs.declared.word.Kind.TheVariants as kind
use Rattle.mupdate_codec.specs.Arguments.{exact, a_name, a_place, a_mailbox, ended_line}
use Rattle.mupdate_codec.specs.Commands as of_commands
use Rattle.mupdate_codec.specs.Commands.{command_line, command_word, command_verb_form, command_verbs}
use Rattle.mupdate_codec.specs.Responses as of_responses
use Rattle.mupdate_codec.specs.Responses.{response_line, response_word, kind_form, kinds}
use Rattle.mupdate_codec.specs.Tags.{command_tag, response_tag}
use Rattle.mupdate_codec.specs.Told.{told_texts}
use Rattle.mupdate_codec.proofs.LinesLaw.{law_a_name, law_a_place, law_a_mailbox, law_command_tag, law_response_tag, command_branch, response_branch, law_command}
use Rattle.mupdate_codec.proofs.LinesLaw.{law_response}
use Rattle.mupdate_codec.proofs.ToldLaw.{Told, Leaves, leaves, law_leaves, told_same, told_then, told_map, told_spaced, leaves_then, told_a_name, told_a_place}
use Rattle.mupdate_codec.proofs.ToldLaw.{told_a_mailbox}

leaves_a_name : Leaves (a_name exact).part
leaves_a_name = law_leaves (a_name exact) law_a_name

leaves_a_place : Leaves (a_place exact).part
leaves_a_place = law_leaves (a_place exact) law_a_place

leaves_a_mailbox : Leaves (a_mailbox exact).part
leaves_a_mailbox = law_leaves (a_mailbox exact) law_a_mailbox

leaves_command : (v : Verb) → Leaves (of_commands.command_arguments exact v).part
leaves_command v = law_leaves (of_commands.command_arguments exact v) (command_branch v).law

leaves_response : (k : Kind) → Leaves (of_responses.response_arguments exact k).part
leaves_response k = law_leaves (of_responses.response_arguments exact k) (response_branch k).law

told_command : (v : Verb) → Told (of_commands.command_arguments exact v).part (of_commands.command_arguments told_texts v).part
unfolding Rattle.mupdate_codec.specs.Commands.command_arguments
told_command verb.Activate = told_map (λ x. command.Activate x.0 x.1.0 x.1.1) (a_mailbox exact).part (a_mailbox told_texts).part told_a_mailbox leaves_a_mailbox
told_command verb.Deactivate = told_map (λ x. command.Deactivate x.0 x.1) (a_place exact).part (a_place told_texts).part told_a_place leaves_a_place
told_command verb.Delete = told_map command.Delete (a_name exact).part (a_name told_texts).part told_a_name leaves_a_name
told_command verb.Find = told_map command.Find (a_name exact).part (a_name told_texts).part told_a_name leaves_a_name
told_command verb.List = told_same (of_commands.command_arguments exact verb.List).part (leaves_command verb.List)
told_command verb.Logout = told_same (of_commands.command_arguments exact verb.Logout).part (leaves_command verb.Logout)
told_command verb.Noop = told_same (of_commands.command_arguments exact verb.Noop).part (leaves_command verb.Noop)
told_command verb.Reserve = told_map (λ x. command.Reserve x.0 x.1) (a_place exact).part (a_place told_texts).part told_a_place leaves_a_place
told_command verb.Update = told_same (of_commands.command_arguments exact verb.Update).part (leaves_command verb.Update)

told_response : (k : Kind) → Told (of_responses.response_arguments exact k).part (of_responses.response_arguments told_texts k).part
unfolding Rattle.mupdate_codec.specs.Responses.response_arguments
told_response kind.Bad = told_same (of_responses.response_arguments exact kind.Bad).part (leaves_response kind.Bad)
told_response kind.Delete = told_map response.Delete (a_name exact).part (a_name told_texts).part told_a_name leaves_a_name
told_response kind.Mailbox = told_map (λ x. response.Mailbox x.0 x.1.0 x.1.1) (a_mailbox exact).part (a_mailbox told_texts).part told_a_mailbox leaves_a_mailbox
told_response kind.No = told_same (of_responses.response_arguments exact kind.No).part (leaves_response kind.No)
told_response kind.Ok = told_same (of_responses.response_arguments exact kind.Ok).part (leaves_response kind.Ok)
told_response kind.Reserve = told_map (λ x. response.Reserve x.0 x.1) (a_place exact).part (a_place told_texts).part told_a_place leaves_a_place

-- a form and a byte behind it
module _ {A : Type 0} where
  last : ℕ → A → Part A
  last c a = map (λ _. a) (byte c)

  leaves_last : (c : ℕ) (a : A) → Leaves (last c a)
  unfolding last
  leaves_last c a = leaves (last c a) (good_map (λ _. a) (byte c) (good_byte any c))

  told_followed : (p t : Form A) (c : ℕ) → Told p.part t.part → Leaves p.part → Told (followed p c).part (followed t c).part
  unfolding last
  told_followed p t c s l = told_then p.part t.part (last c) (last c) s l (λ a. told_same (last c a) (leaves_last c a))

  leaves_followed : (p : Form A) (c : ℕ) → Leaves p.part → Leaves (followed p c).part
  unfolding last
  leaves_followed p c l = leaves_then p.part (last c) l (leaves_last c)

  told_line : (p t : Form A) → Told p.part t.part → Leaves p.part → Told (ended_line p).part (ended_line t).part
  told_line p t s l = told_followed (followed p 13) (followed t 13) 10 (told_followed p t 13 s l) (leaves_followed p 13 l)

  leaves_line : (p : Form A) → Leaves p.part → Leaves (ended_line p).part
  leaves_line p l = leaves_followed (followed p 13) 10 (leaves_followed p 13 l)

leaves_verb : Leaves command_verb_form.part
unfolding command_word
leaves_verb = law_leaves command_verb_form (law_table verb.Update command_verbs command_word refl refl (32 ∷ 13 ∷ []) refl refl)

leaves_kind : Leaves kind_form.part
unfolding response_word
leaves_kind = law_leaves kind_form (law_table kind.Bad kinds response_word refl refl (32 ∷ 13 ∷ []) refl refl)

pub told_command_line : Told (command_line exact).part (command_line told_texts).part
unfolding command_line
told_command_line =
    let strict : Form MCommand = dispatch command_verb_form of_commands.command_verb (of_commands.command_arguments exact) in
    let placed : Form MCommand = dispatch command_verb_form of_commands.command_verb (of_commands.command_arguments told_texts) in
    let leaves_strict = law_leaves strict law_command in
    told_spaced command_tag command_tag (ended_line strict) (ended_line placed) (told_same command_tag.part (law_leaves command_tag law_command_tag))
    (law_leaves command_tag law_command_tag)
    (told_line strict placed
    (told_then command_verb_form.part command_verb_form.part (λ v. (of_commands.command_arguments exact v).part) (λ v. (of_commands.command_arguments told_texts v).part)
    (told_same command_verb_form.part leaves_verb) leaves_verb told_command)
    leaves_strict)
    (leaves_line strict leaves_strict)

pub told_response_line : Told (response_line exact).part (response_line told_texts).part
unfolding response_line
told_response_line =
    let strict : Form MResponse = dispatch kind_form of_responses.response_kind (of_responses.response_arguments exact) in
    let placed : Form MResponse = dispatch kind_form of_responses.response_kind (of_responses.response_arguments told_texts) in
    let leaves_strict = law_leaves strict law_response in
    told_spaced response_tag response_tag (ended_line strict) (ended_line placed) (told_same response_tag.part (law_leaves response_tag law_response_tag))
    (law_leaves response_tag law_response_tag)
    (told_line strict placed
    (told_then kind_form.part kind_form.part (λ k. (of_responses.response_arguments exact k).part) (λ k. (of_responses.response_arguments told_texts k).part)
    (told_same kind_form.part leaves_kind) leaves_kind told_response)
    leaves_strict)
    (leaves_line strict leaves_strict)
