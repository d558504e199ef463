-- Where an LF stands inside a line of a command, so that the line goes on behind it: at the end of the header of a literal, or in a
-- literal that may be any text.
use Rattle.std.proofs.Common.{◌≡◌, ℕ, ◌<◌, List, [], ◌∷◌, ◌++◌, length, Bool, ◌==◌, None, Some, ◌⊎◌, inl, inr, ⊎_elim}
use Rattle.std.proofs.Common.{refl, sym, ap, ◌∙◌, subst, append-nil, append_assoc, length-append, arith}
use Rattle.grammar.specs.Part.{Part, ◌then◌, ◌sp◌, give, map, byte, choose}
use Rattle.grammar.specs.Exact.{any}
use Rattle.grammar.specs.Forms.{Form, preceded, dispatch, constant, named, names_of, ◌spaced◌}
use Rattle.grammar.specs.Words.{word}
use Rattle.grammar.specs.Tables.{any_case}
use Rattle.grammar.proofs.Conditions.{and_left}
use Rattle.grammar.proofs.Spelling.{spell_then, spell_sp}
use Rattle.text_parts.proofs.LocationsLaw.{exactly_length, exactly_same}
use Rattle.mupdate_codec.specs.declared.command.MCommand.{MCommand}
use Rattle.mupdate_codec.specs.declared.command.MCommand.TheVariants as command
use Rattle.mupdate_codec.specs.declared.tag.Tag.{Tag}
use Rattle.mupdate_codec.specs.declared.tag.Tag.TheVariants.{Text}
use Rattle.mupdate_codec.specs.declared.word.Verb.{Verb}
use Rattle.mupdate_codec.specs.declared.word.Verb.TheVariants as verb
use Rattle.mupdate_codec.specs.declared.limits.TheConstants.{STRING_LIMIT}
use Rattle.mupdate_codec.specs.Arguments.{exact, a_name, a_place, a_mailbox, maybe_string, ended_line}
use Rattle.mupdate_codec.specs.Characters.{is_mupdate_tag_byte}
use Rattle.mupdate_codec.specs.Commands.{command_line, command_verb_form, command_verb, command_verbs, command_arguments, command_arguments_text, IsCommandLine}
use Rattle.mupdate_codec.specs.Strings.{header, mupdate_string, name, location, string_form, name_form, location_form}
use Rattle.mupdate_codec.specs.Tags.{mupdate_tags}
use Rattle.mupdate_codec.specs.Waits.{up_to_any, head}
use Rattle.mupdate_codec.proofs.CutLaw.{not_nothing, lf_in}
use Rattle.mupdate_codec.proofs.HeadReads.{byte_text}
use Rattle.mupdate_codec.proofs.MarksLaw.{Marked, marked_behind, Marks, marks_then, marks_give, marks_map, marks_byte, marks_behind, marks_run, marks_names, marks_header, marks_quoted, marks_name, marks_location}

-- bytes that end in a literal of any text, behind whose header `q` ends; some of its octets are still to come
pub record InLiteral (q : Part ℕ) (front : List ℕ) : Type 0 where
  pub before : List ℕ
  pub text : List ℕ
  pub size : ℕ
  pub spelled : q.lang before size
  pub parts : front ≡ before ++ text
  pub inside : length text < size

-- each LF of a spelling of p ends a header or is in such a literal
record Inner {A : Type 0} (q : Part ℕ) (p : Part A) : Type 0 where
  inner : (s front more : List ℕ) (a : A) → p.lang s a → s ≡ front ++ 10 ∷ more → Marked front ⊎ InLiteral q front

inner_none : {A : Type 0} (q : Part ℕ) (p : Part A) → Marks p → Inner q p
inner_none q p m = record { inner = λ s front more a l e. inl (m.marked s front more a l e) }

inner_then : {A B : Type 0} (p : Part A) (f : A → Part B) (g : A → Part ℕ) → Marks p → ((a : A) → Inner (g a) (f a)) → Inner (p then g) (p then f)
inner_then p f g m k = record {
  inner = λ s front more b j e.
      ⊎_elim (λ r. inl (m.marked j.front front r.0 j.between j.begins r.1))
      (λ x. ⊎_elim (λ m. inl (subst Marked (sym x.1) (marked_behind j.front x.0 m)))
      (λ i. inr (record {
        before = j.front ++ i.before;
        text = i.text;
        size = i.size;
        spelled = spell_then p g j.front i.before j.between i.size j.begins i.spelled;
        parts = x.1 ∙ ap (λ t. j.front ++ t) i.parts ∙ sym (append_assoc j.front i.before i.text);
        inside = i.inside;
      })) ((k j.between).inner j.back x.0 more b j.goes_on x.2)) (lf_in j.front j.back front more (sym j.parts ∙ e));
}

inner_map : {A B : Type 0} (f : A → B) (p : Part A) (q : Part ℕ) → Inner q p → Inner q (map f p)
inner_map f p q m = record {
  inner = λ s front more b j e.
      ⊎_elim (λ r. m.inner j.front front r.0 j.between j.begins r.1)
      (λ x. inl (subst Marked (sym x.1) (marked_behind j.front x.0 ((marks_give (f j.between)).marked j.back x.0 more b j.goes_on x.2))))
      (lf_in j.front j.back front more (sym j.parts ∙ e));
}

inner_choose : {A : Type 0} (test : ℕ → Bool) (p r : Part A) (q : Part ℕ) → Inner q p → Inner q r → Inner q (choose test p r)
inner_choose test p r q m k = record {
  inner = λ s front more a l e. ⊎_elim (λ l. m.inner s front more a l e) (λ l. k.inner s front more a l e) l;
}

inner_behind : {B : Type 0} (p : Part B) (q : Part ℕ) → Inner q p → Inner (byte 32 then λ _. q) (byte 32 then λ _. p)
inner_behind p q m = inner_then (byte 32) (λ _. p) (λ _. q) (marks_byte 32 refl) (λ _. m)

inner_spaced : {A B : Type 0} (p : Form A) (r : Form B) (q : Part ℕ) → Marks p.part → Inner q r.part → Inner (p.part sp λ _. q) (p spaced r).part
inner_spaced p r q m k =
    inner_then p.part (λ a. map (λ b. (a, b)) (preceded 32 r).part) (λ _. byte 32 then λ _. q) m
    (λ a. inner_map (λ b. (a, b)) (preceded 32 r).part (byte 32 then λ _. q) (inner_behind r.part q k))

-- arguments

inner_string : Inner (header 0 STRING_LIMIT) mupdate_string
unfolding mupdate_string
inner_string = record {
  inner = λ s front more a l e.
      ⊎_elim (λ l. inl (marks_quoted.marked s front more a l e))
      (λ j. ⊎_elim (λ r. inl ((marks_header 0 STRING_LIMIT).marked j.front front r.0 j.between j.begins r.1))
      (λ x. inr (record {
        before = j.front;
        text = x.0;
        size = j.between;
        spelled = j.begins;
        parts = x.1;
        inside =
            omega (
              arith,
              ap length x.2,
              length-append x.0 (10 ∷ more),
              ap length (exactly_same any j.between j.back a j.goes_on),
              (exactly_length any j.between j.back a j.goes_on).0,
            );
      })) (lf_in j.front j.back front more (sym j.parts ∙ e))) l;
}

marks_a_name : Marks (a_name exact).part
marks_a_name = marks_behind 32 name refl marks_name

marks_a_place : Marks (a_place exact).part
marks_a_place =
    marks_behind 32 (name_form spaced location_form).part refl
    (marks_then name (λ a. map (λ b. (a, b)) (byte 32 then λ _. location)) marks_name
    (λ _ a _. marks_map (λ b. (a, b)) (byte 32 then λ _. location) (marks_behind 32 location refl marks_location)))

marks_none : (it : MCommand) → Marks (constant it command_arguments_text).part
marks_none it = marks_map (λ _. it) (give tt) (marks_give tt)

inner_arguments : (v : Verb) → Inner (byte 32 then λ _. up_to_any v) (command_arguments exact v).part
unfolding up_to_any command_arguments
inner_arguments verb.Activate =
    inner_map (λ x. command.Activate x.0 x.1.0 x.1.1) (a_mailbox exact).part (byte 32 then λ _. name sp λ _. location sp λ _. header 0 STRING_LIMIT)
    (inner_behind (name_form spaced (location_form spaced string_form)).part (name sp λ _. location sp λ _. header 0 STRING_LIMIT)
    (inner_spaced name_form (location_form spaced string_form) (location sp λ _. header 0 STRING_LIMIT) marks_name
    (inner_spaced location_form string_form (header 0 STRING_LIMIT) marks_location inner_string)))
inner_arguments verb.List =
    inner_map command.List maybe_string.part (byte 32 then λ _. header 0 STRING_LIMIT)
    (inner_choose (λ b. b == 32) (byte 32 then λ _. map Some mupdate_string) (map (λ _. None) (give tt)) (byte 32 then λ _. header 0 STRING_LIMIT)
    (inner_behind (map Some mupdate_string) (header 0 STRING_LIMIT) (inner_map Some mupdate_string (header 0 STRING_LIMIT) inner_string))
    (inner_none (byte 32 then λ _. header 0 STRING_LIMIT) (map (λ _. None) (give tt)) (marks_map (λ _. None) (give tt) (marks_give tt))))
inner_arguments verb.Deactivate = inner_none _ _ (marks_map (λ x. command.Deactivate x.0 x.1) (a_place exact).part marks_a_place)
inner_arguments verb.Delete = inner_none _ _ (marks_map command.Delete (a_name exact).part marks_a_name)
inner_arguments verb.Find = inner_none _ _ (marks_map command.Find (a_name exact).part marks_a_name)
inner_arguments verb.Logout = inner_none _ _ (marks_none command.Logout)
inner_arguments verb.Noop = inner_none _ _ (marks_none command.Noop)
inner_arguments verb.Reserve = inner_none _ _ (marks_map (λ x. command.Reserve x.0 x.1) (a_place exact).part marks_a_place)
inner_arguments verb.Update = inner_none _ _ (marks_none command.Update)

-- lines

marks_tags : Marks (word mupdate_tags)
unfolding is_mupdate_tag_byte
marks_tags = marks_run mupdate_tags is_mupdate_tag_byte refl (λ s h. and_left _ _ (and_left _ _ h))

marks_verbs : Marks command_verb_form.part
marks_verbs =
    marks_map (named verb.Update command_verbs) (word (any_case (names_of command_verbs))) (marks_names (names_of command_verbs) refl)

abbrev commands : Form MCommand
commands = dispatch command_verb_form command_verb (command_arguments exact)

-- a line but for its CRLF
abbrev body : Part MCommand
body = word mupdate_tags sp λ _. commands.part

inner_body : Inner head body
unfolding head
inner_body =
    inner_then (word mupdate_tags) (λ _. byte 32 then λ _. commands.part) (λ _. byte 32 then λ _. command_verb_form.part sp up_to_any) marks_tags
    (λ _. inner_behind commands.part (command_verb_form.part sp up_to_any)
    (inner_then command_verb_form.part (λ v. (command_arguments exact v).part) (λ v. byte 32 then λ _. up_to_any v) marks_verbs inner_arguments))

record Body (line : List ℕ) : Type 0 where
  text : List ℕ
  value : MCommand
  spelled : body.lang text value
  parts : line ≡ text ++ 13 ∷ 10 ∷ []

-- what a value is made of
mapped_text : {A B : Type 0} (f : A → B) (p : Part A) (s : List ℕ) (b : B) (j : (map f p).lang s b) → s ≡ j.front
mapped_text f p s b j = j.parts ∙ ap (λ t. j.front ++ t) j.goes_on.0 ∙ append-nil j.front

last_text : {A : Type 0} (c : ℕ) (a : A) (s : List ℕ) (v : A) → (map (λ _. a) (byte c)).lang s v → s ≡ c ∷ []
last_text c a s v j = mapped_text (λ _. a) (byte c) s v j ∙ byte_text c j.front j.between j.begins

body_of : (line : List ℕ) (it : Tag × MCommand) → IsCommandLine line it → Body line
unfolding command_line
body_of line it j =
    let tag = j.begins in
    let behind = j.goes_on in
    let space = behind.begins in
    let ended = space.goes_on in
    let all = ended.begins in
    let tag_is : j.front ≡ tag.front = mapped_text Text (word mupdate_tags) j.front j.between tag in
    let space_is : space.front ≡ 32 ∷ [] = byte_text 32 space.front space.between space.begins in
    let cr_is : all.back ≡ 13 ∷ [] = last_text 13 all.between all.back ended.between all.goes_on in
    let lf_is : ended.back ≡ 10 ∷ [] = last_text 10 ended.between ended.back behind.between ended.goes_on in
    record {
      text = tag.front ++ 32 ∷ all.front;
      value = all.between;
      spelled = spell_sp (word mupdate_tags) (λ _. commands.part) tag.front all.front tag.between all.between tag.begins all.begins;
      parts = j.parts ∙ ap (λ t. t ++ j.back) tag_is
          ∙ ap (λ t. tag.front ++ t) (mapped_text (λ b. (j.between, b)) (preceded 32 (ended_line commands)).part j.back it behind
          ∙ space.parts ∙ ap (λ t. t ++ space.back) space_is
          ∙ ap (λ t. 32 ∷ t) (ended.parts ∙ ap (λ t. t ++ ended.back) (all.parts ∙ ap (λ t. all.front ++ t) cr_is) ∙ ap (λ t. (all.front ++ 13 ∷ []) ++ t) lf_is))
          ∙ regroup tag.front all.front;
    }
  where
    regroup : (tag text : List ℕ) → tag ++ 32 ∷ ((text ++ 13 ∷ []) ++ 10 ∷ []) ≡ (tag ++ 32 ∷ text) ++ 13 ∷ 10 ∷ []
    regroup tag text = simp append_assoc

-- the LF that ends a line has nothing behind it
not_last : {R : Type 0} (f more : List ℕ) → (let s : List ℕ = 13 ∷ 10 ∷ [] in s) ≡ f ++ 10 ∷ more → 0 < length more → R
not_last [] more e some = let first : (let n : ℕ = 13 in n ≡ 10) = cc in absurd (omega (arith, first))
not_last (c ∷ []) more e some = let none : [] ≡ more = cc in absurd (omega (arith, ap length none, some))
not_last (c ∷ d ∷ f) more e some = let none : [] ≡ f ++ 10 ∷ more = cc in absurd (not_nothing f 10 more none)

pub inner_line : (line front more : List ℕ) (it : Tag × MCommand) → IsCommandLine line it → line ≡ front ++ 10 ∷ more → 0 < length more
    → Marked front ⊎ InLiteral head front
inner_line line front more it l e some =
    let b = body_of line it l in
    ⊎_elim (λ r. inner_body.inner b.text front r.0 b.value b.spelled r.1) (λ x. not_last x.0 more x.2 some)
    (lf_in b.text (13 ∷ 10 ∷ []) front more (sym b.parts ∙ e))
