-- What is printed of lines that can be is a line.
use Rattle.std.proofs.Common.{◌≡◌, ℕ, true, List, [], ◌∷◌, None, Some, inl, inr, refl, subst}
use Rattle.mur_base.specs.declared.home.Location.{Location}
use Rattle.grammar.specs.Part.{map as map_part, byte, give}
use Rattle.grammar.specs.Tables.{any_case}
use Rattle.grammar.specs.Words.{word}
use Rattle.grammar.specs.Forms.{Form, Row, preceded, followed, named, names_of, dispatch, ◌spaced◌}
use Rattle.grammar.proofs.Spelling.{spell_then, spell_map, spell_byte, spell_one}
use Rattle.text_parts.proofs.LocationsLaw.{IsPlace}
use Rattle.mupdate_codec.specs.declared.command.MCommand.{MCommand}
use Rattle.mupdate_codec.specs.declared.command.MCommand.TheVariants as command
use Rattle.mupdate_codec.specs.declared.command.MResponse.{MResponse}
use Rattle.mupdate_codec.specs.declared.command.MResponse.TheVariants as response
use Rattle.mupdate_codec.specs.declared.tag.Tag.TheVariants.{Text}
use Rattle.mupdate_codec.specs.declared.word.Verb.{Verb}
use Rattle.mupdate_codec.specs.declared.word.Verb.TheVariants as verb
use Rattle.mupdate_codec.specs.declared.word.Kind.{Kind}
use Rattle.mupdate_codec.specs.declared.word.Kind.TheVariants as kind
use Rattle.mupdate_codec.specs.Arguments.{exact, a_string, maybe_string, a_name, a_place, a_mailbox, ended_line}
use Rattle.mupdate_codec.specs.Commands.{command_verbs, command_word, command_verb_form, command_verb, command_arguments, command_printed_as, command_line}
use Rattle.mupdate_codec.specs.Responses.{kinds, response_word, kind_form, response_kind, response_arguments, response_printed_as, response_line}
use Rattle.mupdate_codec.specs.Strings.{string_form, name_form, location_form}
use Rattle.mupdate_codec.specs.Tags.{mupdate_tag_text, mupdate_tags, command_tag, response_tag}
use Rattle.mupdate_codec.proofs.StringsPrinted.{spell_string, spell_name, spell_location}
use Rattle.name_links.specs.Spelled.{IsTagText, IsPlaceText, HasTexts, TellsTexts, CommandsAreSpelled, ResponsesAreSpelled}

-- a value of a form is printed as a spelling of it
abbrev IsPrinted : {A : Type 0} → Form A → A → Type 0
IsPrinted p a = p.part.lang (p.text a) a

printed_before : {A : Type 0} (p : Form A) (c : ℕ) (a : A) → IsPrinted p a → IsPrinted (followed p c) a
printed_before p c a l = spell_then p.part (λ a. map_part (λ _. a) (byte c)) (p.text a) (c ∷ []) a a l (spell_map (λ _. a) (byte c) (c ∷ []) c (spell_one c))

module _ {A B : Type 0} where
  printed_spaced : (p : Form A) (q : Form B) (a : A) (b : B) → IsPrinted p a → IsPrinted q b → IsPrinted (p spaced q) (a, b)
  printed_spaced p q a b l m =
      spell_then p.part (λ a. map_part (λ b. (a, b)) (preceded 32 q).part) (p.text a) (32 ∷ q.text b) a (a, b) l
      (spell_map (λ b. (a, b)) (preceded 32 q).part (32 ∷ q.text b) b (spell_byte 32 q.part (q.text b) b m))

  printed_next : (p : Form A) (key : B → A) (next : A → Form B) (b : B) → IsPrinted p (key b) → IsPrinted (next (key b)) b → IsPrinted (dispatch p key next) b
  printed_next p key next b l m = spell_then p.part (λ k. (next k).part) (p.text (key b)) ((next (key b)).text b) (key b) b l m

printed_line : {A : Type 0} (p : Form A) (a : A) → IsPrinted p a → IsPrinted (ended_line p) a
printed_line p a l = printed_before (followed p 13) 10 a (printed_before p 13 a l)

place_is : (place : Location) → IsPlaceText place → IsPlace place
place_is place t = record { server = t.0; partition = t.1 }

-- ---- arguments

place_printed : (name : List ℕ) (place : Location) → HasTexts (command.Reserve name place) → IsPrinted (a_place exact) (name, place)
place_printed name place t =
    spell_byte 32 (name_form spaced location_form).part ((name_form spaced location_form).text (name, place)) (name, place)
    (printed_spaced name_form location_form name place (spell_name name t.0) (spell_location place (place_is place t.1)))

mailbox_printed : (name : List ℕ) (place : Location) (acl : List ℕ) → HasTexts (command.Activate name place acl) → IsPrinted (a_mailbox exact) (name, (place, acl))
mailbox_printed name place acl t =
    spell_byte 32 (name_form spaced (location_form spaced string_form)).part ((name_form spaced (location_form spaced string_form)).text (name, (place, acl))) (name, (place, acl))
    (printed_spaced name_form (location_form spaced string_form) name (place, acl) (spell_name name t.0)
    (printed_spaced location_form string_form place acl (spell_location place (place_is place t.1)) (spell_string acl t.2)))

name_printed : (name : List ℕ) → HasTexts (command.Delete name) → IsPrinted (a_name exact) name
name_printed name t = spell_byte 32 name_form.part (name_form.text name) name (spell_name name t)

string_printed : (text : List ℕ) → HasTexts (command.List (Some text)) → IsPrinted a_string text
string_printed text t = spell_byte 32 string_form.part (string_form.text text) text (spell_string text t)

-- ---- commands

-- a word is printed as its row has it
in_rows : {A : Type 0} (other : A) (rows : List (Row A)) (text : List ℕ) (a : A) → (any_case (names_of rows)).whole text ≡ true → named other rows text ≡ a
    → (map_part (named other rows) (word (any_case (names_of rows)))).lang text a
in_rows other rows text a whole is =
    subst (λ v. (map_part (named other rows) (word (any_case (names_of rows)))).lang text v) is (spell_map (named other rows) (word (any_case (names_of rows))) text text (refl, whole))

verb_printed : (v : Verb) → IsPrinted command_verb_form v
unfolding command_word
verb_printed verb.Activate = in_rows verb.Update command_verbs (command_word verb.Activate) verb.Activate refl refl
verb_printed verb.Deactivate = in_rows verb.Update command_verbs (command_word verb.Deactivate) verb.Deactivate refl refl
verb_printed verb.Delete = in_rows verb.Update command_verbs (command_word verb.Delete) verb.Delete refl refl
verb_printed verb.Find = in_rows verb.Update command_verbs (command_word verb.Find) verb.Find refl refl
verb_printed verb.List = in_rows verb.Update command_verbs (command_word verb.List) verb.List refl refl
verb_printed verb.Logout = in_rows verb.Update command_verbs (command_word verb.Logout) verb.Logout refl refl
verb_printed verb.Noop = in_rows verb.Update command_verbs (command_word verb.Noop) verb.Noop refl refl
verb_printed verb.Reserve = in_rows verb.Update command_verbs (command_word verb.Reserve) verb.Reserve refl refl
verb_printed verb.Update = in_rows verb.Update command_verbs (command_word verb.Update) verb.Update refl refl

nothing_given : {A : Type 0} (a : A) → (map_part (λ _. a) (give (tt {0}))).lang [] a
nothing_given a = spell_map (λ _. a) (give (tt {0})) [] (tt {0}) (refl, refl)

arguments_printed : (it : MCommand) → HasTexts it → IsPrinted (command_arguments exact (command_verb it)) it
unfolding command_arguments command_printed_as
arguments_printed (command.Reserve name place) t = spell_map (λ x. command.Reserve x.0 x.1) (a_place exact).part _ (name, place) (place_printed name place t)
arguments_printed (command.Activate name place acl) t = spell_map (λ x. command.Activate x.0 x.1.0 x.1.1) (a_mailbox exact).part _ (name, (place, acl)) (mailbox_printed name place acl t)
arguments_printed (command.Deactivate name place) t = spell_map (λ x. command.Deactivate x.0 x.1) (a_place exact).part _ (name, place) (place_printed name place t)
arguments_printed (command.Delete name) t = spell_map (λ x. command.Delete x) (a_name exact).part _ name (name_printed name t)
arguments_printed (command.Find name) t = spell_map (λ x. command.Find x) (a_name exact).part _ name (name_printed name t)
arguments_printed (command.List None) t = spell_map (λ x. command.List x) maybe_string.part [] None (inr (nothing_given None))
arguments_printed (command.List (Some prefix)) t =
    spell_map (λ x. command.List x) maybe_string.part (32 ∷ string_form.text prefix) (Some prefix)
    (inl (spell_byte 32 (map_part (λ x. Some x) string_form.part) (string_form.text prefix) (Some prefix) (spell_map (λ x. Some x) string_form.part (string_form.text prefix) prefix (spell_string prefix t))))
arguments_printed command.Update t = nothing_given command.Update
arguments_printed command.Noop t = nothing_given command.Noop
arguments_printed command.Logout t = nothing_given command.Logout

tag_printed : (tag : List ℕ) → IsTagText tag → IsPrinted command_tag (Text tag)
unfolding mupdate_tag_text
tag_printed tag t = spell_map (λ x. Text x) (word mupdate_tags) tag tag (refl, t)

command_printed : (it : MCommand) → HasTexts it → IsPrinted (dispatch command_verb_form command_verb (command_arguments exact)) it
command_printed it t = printed_next command_verb_form command_verb (command_arguments exact) it (verb_printed (command_verb it)) (arguments_printed it t)

pub commands_are_spelled : CommandsAreSpelled
unfolding command_line
commands_are_spelled tag it a t = (
  _,
  printed_spaced command_tag (ended_line (dispatch command_verb_form command_verb (command_arguments exact))) (Text tag) it (tag_printed tag a)
      (printed_line (dispatch command_verb_form command_verb (command_arguments exact)) it (command_printed it t)),
)

-- ---- responses

kind_printed : (k : Kind) → IsPrinted kind_form k
unfolding response_word
kind_printed kind.Bad = in_rows kind.Bad kinds (response_word kind.Bad) kind.Bad refl refl
kind_printed kind.Delete = in_rows kind.Bad kinds (response_word kind.Delete) kind.Delete refl refl
kind_printed kind.Mailbox = in_rows kind.Bad kinds (response_word kind.Mailbox) kind.Mailbox refl refl
kind_printed kind.No = in_rows kind.Bad kinds (response_word kind.No) kind.No refl refl
kind_printed kind.Ok = in_rows kind.Bad kinds (response_word kind.Ok) kind.Ok refl refl
kind_printed kind.Reserve = in_rows kind.Bad kinds (response_word kind.Reserve) kind.Reserve refl refl

told_printed : (it : MResponse) → TellsTexts it → IsPrinted (response_arguments exact (response_kind it)) it
unfolding response_arguments response_printed_as
told_printed (response.Mailbox name place acl) t = spell_map (λ x. response.Mailbox x.0 x.1.0 x.1.1) (a_mailbox exact).part _ (name, (place, acl)) (mailbox_printed name place acl t)
told_printed (response.Reserve name place) t = spell_map (λ x. response.Reserve x.0 x.1) (a_place exact).part _ (name, place) (place_printed name place t)
told_printed (response.Delete name) t = spell_map (λ x. response.Delete x) (a_name exact).part _ name (name_printed name t)
told_printed (response.Ok text) t = spell_map (λ x. response.Ok x) a_string.part _ text (string_printed text t)
told_printed (response.No text) t = spell_map (λ x. response.No x) a_string.part _ text (string_printed text t)
told_printed (response.Bad text) t = spell_map (λ x. response.Bad x) a_string.part _ text (string_printed text t)

pub responses_are_spelled : ResponsesAreSpelled
unfolding response_line
responses_are_spelled tag it a t = (
  _,
  printed_spaced response_tag (ended_line (dispatch kind_form response_kind (response_arguments exact))) (Text tag) it (inr (tag_printed tag a))
      (printed_line (dispatch kind_form response_kind (response_arguments exact)) it
      (printed_next kind_form response_kind (response_arguments exact) it (kind_printed (response_kind it)) (told_printed it t))),
)
