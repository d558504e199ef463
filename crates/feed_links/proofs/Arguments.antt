-- The arguments of a command that was read can be written, and so can its tag.
use Rattle.std.proofs.Common.{◌≡◌, ℕ, Bool, true, false, ◌&&◌, nat_le, nat_lt, List, [], ◌∷◌, length, take, inl, inr, Option, None, Some, refl, sym, ap, subst}
use Rattle.std.specs.Prelude.{position, ◌==◌, if◌then◌else◌}
use Rattle.std.specs.List.{list_all}
use Rattle.grammar.specs.Forms.{Form, dispatch, followed, preceded, ◌spaced◌}
use Rattle.grammar.proofs.Spelling.{spell_map, spell_byte}
use Rattle.grammar.specs.Part.{give, map as map_part}
use Rattle.grammar.specs.Words.{word}
use Rattle.grammar.specs.Runs.{some}
use Rattle.master_core.specs.Lines.{is_tag, tag_to, tag_before}
use Rattle.mupdate_codec.specs.declared.command.MCommand.{MCommand}
use Rattle.mupdate_codec.specs.declared.command.MCommand.TheVariants as command
use Rattle.mupdate_codec.specs.declared.limits.TheConstants.{TAG_MOST}
use Rattle.mupdate_codec.specs.declared.tag.Tag.{Tag}
use Rattle.mupdate_codec.specs.declared.tag.Tag.TheVariants.{Star, Text}
use Rattle.mupdate_codec.specs.declared.word.Verb.{Verb}
use Rattle.mupdate_codec.specs.declared.word.Verb.TheVariants as verb
use Rattle.mupdate_codec.specs.Arguments.{exact, a_name, a_place, a_mailbox, ended_line}
use Rattle.mupdate_codec.specs.Characters.{is_mupdate_tag_byte}
use Rattle.mupdate_codec.specs.Commands.{command_verb_form, command_verb, command_arguments, command_line, IsCommandLine}
use Rattle.mupdate_codec.specs.Strings.{string_form, name_form, location_form}
use Rattle.mupdate_codec.specs.Tags.{command_tag, response_tag, mupdate_tags}
use Rattle.mur_base.specs.declared.home.Location.{Location}
use Rattle.feed_links.specs.Spelled.{IsSpelledIn}

-- forms taken apart

module _ {A : Type 0} where
  behind : (c : ℕ) (p : Form A) (bytes : List ℕ) (a : A) → (preceded c p).part.lang bytes a → IsSpelledIn p a
  behind c p bytes a j = (j.back, j.goes_on)

  before : (p : Form A) (c : ℕ) (bytes : List ℕ) (a : A) → (followed p c).part.lang bytes a → IsSpelledIn p a
  before p c bytes a j = (j.front, subst (p.part.lang j.front) (sym j.goes_on.goes_on.1) j.begins)

  in_line : (p : Form A) (bytes : List ℕ) (a : A) → (ended_line p).part.lang bytes a → IsSpelledIn p a
  in_line p bytes a j =
      let inner = before (followed p 13) 10 bytes a j in before p 13 inner.0 a inner.1

module _ {A B : Type 0} where
  first_of : (p : Form A) (q : Form B) (bytes : List ℕ) (x : A × B) → (p spaced q).part.lang bytes x → IsSpelledIn p x.0
  first_of p q bytes x j = (j.front, subst (p.part.lang j.front) (sym (ap (λ (y : A × B). y.0) j.goes_on.goes_on.1)) j.begins)

  second_of : (p : Form A) (q : Form B) (bytes : List ℕ) (x : A × B) → (p spaced q).part.lang bytes x → IsSpelledIn q x.1
  second_of p q bytes x j =
      let inner = behind 32 q j.goes_on.front j.goes_on.between j.goes_on.begins in
      (inner.0, subst (q.part.lang inner.0) (sym (ap (λ (y : A × B). y.1) j.goes_on.goes_on.1)) inner.1)

-- the arguments of a command
abbrev pub HasArguments : MCommand → Type 0
HasArguments (command.Reserve name place) = IsSpelledIn name_form name × IsSpelledIn location_form place
HasArguments (command.Activate name place acl) = IsSpelledIn name_form name × IsSpelledIn location_form place × IsSpelledIn string_form acl
HasArguments (command.Deactivate name place) = IsSpelledIn name_form name × IsSpelledIn location_form place
HasArguments (command.Delete name) = IsSpelledIn name_form name
HasArguments it = Unit {0}

name_has : (bytes name : List ℕ) → (a_name exact).part.lang bytes name → IsSpelledIn name_form name
name_has bytes name j = behind 32 name_form bytes name j

place_has : (bytes : List ℕ) (x : List ℕ × Location) → (a_place exact).part.lang bytes x → IsSpelledIn name_form x.0 × IsSpelledIn location_form x.1
place_has bytes x j =
    let both = behind 32 (name_form spaced location_form) bytes x j in
    (first_of name_form location_form both.0 x both.1, second_of name_form location_form both.0 x both.1)

mailbox_has : (bytes : List ℕ) (x : List ℕ × (Location × List ℕ)) → (a_mailbox exact).part.lang bytes x
    → IsSpelledIn name_form x.0 × IsSpelledIn location_form x.1.0 × IsSpelledIn string_form x.1.1
mailbox_has bytes x j =
    let all = behind 32 (name_form spaced (location_form spaced string_form)) bytes x j in
    let rest = second_of name_form (location_form spaced string_form) all.0 x all.1 in (
      first_of name_form (location_form spaced string_form) all.0 x all.1,
      first_of location_form string_form rest.0 x.1 rest.1,
      second_of location_form string_form rest.0 x.1 rest.1,
    )

arguments_has : (v : Verb) (bytes : List ℕ) (it : MCommand) → (command_arguments exact v).part.lang bytes it → HasArguments it
unfolding command_arguments
arguments_has verb.Activate bytes it j = subst HasArguments (sym j.goes_on.1) (mailbox_has j.front j.between j.begins)
arguments_has verb.Deactivate bytes it j = subst HasArguments (sym j.goes_on.1) (place_has j.front j.between j.begins)
arguments_has verb.Delete bytes it j = subst HasArguments (sym j.goes_on.1) (name_has j.front j.between j.begins)
arguments_has verb.Find bytes it j = subst HasArguments (sym j.goes_on.1) tt
arguments_has verb.List bytes it j = subst HasArguments (sym j.goes_on.1) tt
arguments_has verb.Logout bytes it j = subst HasArguments (sym j.goes_on.1) tt
arguments_has verb.Noop bytes it j = subst HasArguments (sym j.goes_on.1) tt
arguments_has verb.Reserve bytes it j = subst HasArguments (sym j.goes_on.1) (place_has j.front j.between j.begins)
arguments_has verb.Update bytes it j = subst HasArguments (sym j.goes_on.1) tt

abbrev command_form : Form MCommand
command_form = dispatch command_verb_form command_verb (command_arguments exact)

-- the arguments of a line that was read, and its tag, which is one of a response too

pub line_has : (line : List ℕ) (it : Tag × MCommand) → IsCommandLine line it → HasArguments it.1
unfolding command_line
line_has line it l =
    let behind_tag = second_of command_tag (ended_line command_form) line it l in
    let inner = in_line command_form behind_tag.0 it.1 behind_tag.1 in
    arguments_has (inner.1).between (inner.1).back it.1 (inner.1).goes_on

-- a tag that an answer can have
abbrev pub IsSpelledTag : Tag → Type 0
IsSpelledTag tag = IsSpelledIn response_tag tag

pub line_tagged : (line : List ℕ) (it : Tag × MCommand) → IsCommandLine line it → IsSpelledTag it.0
unfolding command_line
line_tagged line it l = (let tag = first_of command_tag (ended_line command_form) line it l in (tag.0, inr tag.1))

-- and so is the first word of any bytes, or `*`

star_spelled : IsSpelledTag Star
star_spelled = (42 ∷ [], inl (spell_byte 42 (map_part (λ _. Star) (give (tt {0}))) [] Star (spell_map (λ _. Star) (give (tt {0})) [] (tt {0}) (refl, refl))))

some_first : (text : List ℕ) → nat_lt 0 (length text) ≡ true → some text ≡ true
some_first [] h = cc
some_first (c ∷ text) h = refl

whole_by : (all short at_least : Bool) (text : List ℕ) → all && (at_least && short) ≡ true → (at_least ≡ true → some text ≡ true) → all && short && some text ≡ true
whole_by true true true text h k = k refl
whole_by true false true text h k = cc
whole_by true short false text h k = cc
whole_by false short at_least text h k = cc

pub tag_spelled : (text : List ℕ) → is_tag text ≡ true → IsSpelledTag (Text text)
tag_spelled text is = (
  text,
  inr (spell_map (λ x. Text x) (word mupdate_tags) text text
      (refl, whole_by (list_all is_mupdate_tag_byte text) (nat_le (length text) TAG_MOST) (nat_lt 0 (length text)) text is (some_first text))),
)

word_spelled : (text : List ℕ) (b : Bool) → is_tag text ≡ b → IsSpelledTag (if b then Text text else Star)
word_spelled text true is = tag_spelled text is
word_spelled text false is = star_spelled

found_spelled : (bytes : List ℕ) (found : Option ℕ) → IsSpelledTag (tag_to bytes found)
found_spelled bytes None = star_spelled
found_spelled bytes (Some at) = word_spelled (take at bytes) (is_tag (take at bytes)) refl

pub before_spelled : (bytes : List ℕ) → IsSpelledTag (tag_before bytes)
unfolding tag_before
before_spelled bytes = found_spelled bytes (position (λ b. b == 32) bytes)
