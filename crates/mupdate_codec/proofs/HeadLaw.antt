-- A line whose front ends with the header of a literal that may be any text goes on with whatever comes of that literal.
use Rattle.std.proofs.Common.{◌≡◌, ℕ, zero, suc, ◌-◌, ◌≤◌, List, [], ◌∷◌, ◌++◌, length, true, Some, inl, inr, refl, sym, ap, ◌∙◌, subst}
use Rattle.std.proofs.Common.{append_assoc, length-append, arith}
use Rattle.grammar.specs.Part.{◌sp◌, map, exactly}
use Rattle.grammar.specs.Exact.{any}
use Rattle.grammar.specs.Forms.{Form, preceded, dispatch, followed, ◌and◌, ◌spaced◌}
use Rattle.grammar.specs.Words.{word}
use Rattle.grammar.proofs.Spelling.{spell_then, spell_map, spell_byte, spell_exactly}
use Rattle.mupdate_codec.specs.declared.command.MCommand.{MCommand}
use Rattle.mupdate_codec.specs.declared.command.MCommand.TheVariants as command
use Rattle.mupdate_codec.specs.declared.tag.Tag.{Tag}
use Rattle.mupdate_codec.specs.declared.tag.Tag.TheVariants.{Text}
use Rattle.mupdate_codec.specs.declared.word.Verb.{Verb}
use Rattle.mupdate_codec.specs.declared.word.Verb.TheVariants as verb
use Rattle.mupdate_codec.specs.declared.limits.TheConstants.{STRING_LIMIT}
use Rattle.mupdate_codec.specs.Arguments.{exact, a_mailbox, maybe_string, ended_line}
use Rattle.mupdate_codec.specs.Commands.{command_line, command_verb_form, command_verb, command_arguments, IsCommandLine}
use Rattle.mupdate_codec.specs.Strings.{header, name, location, mupdate_string, string_form, name_form, location_form}
use Rattle.mupdate_codec.specs.Tags.{mupdate_tags, command_tag}
use Rattle.mupdate_codec.specs.Waits.{goes_on, up_to_any, head}
use Rattle.mupdate_codec.proofs.CutLaw.{goes_from}
use Rattle.text_parts.proofs.AnyLaw.{all_any}
use Rattle.mupdate_codec.proofs.HeadReads.{spell_followed, sp_text}

spell_and : {A B : Type 0} (p : Form A) (q : Form B) (s t : List ℕ) (a : A) (b : B) → p.part.lang s a → q.part.lang t b → (p and q).part.lang (s ++ t) (a, b)
spell_and p q s t a b l m = spell_then p.part (λ a. map (λ b. (a, b)) q.part) s t a (a, b) l (spell_map (λ b. (a, b)) q.part t b m)

spell_spaced : {A B : Type 0} (p : Form A) (q : Form B) (s t : List ℕ) (a : A) (b : B) → p.part.lang s a → q.part.lang t b
    → (p spaced q).part.lang (s ++ 32 ∷ t) (a, b)
spell_spaced p q s t a b l m = spell_and p (preceded 32 q) s (32 ∷ t) a b l (spell_byte 32 q.part t b m)

spell_line : {A : Type 0} (p : Form A) (s : List ℕ) (a : A) → p.part.lang s a → (ended_line p).part.lang ((s ++ 13 ∷ []) ++ 10 ∷ []) a
spell_line p s a l = spell_followed (followed p 13) 10 (s ++ 13 ∷ []) a (spell_followed p 13 s a l)

-- a string as a literal
spell_any : (front text : List ℕ) (n : ℕ) → (header 0 STRING_LIMIT).lang front n → length text ≡ n → mupdate_string.lang (front ++ text) text
unfolding mupdate_string
spell_any front text n l e =
    inr (spell_then (header 0 STRING_LIMIT) (λ n. exactly any n) front text n text l
    (subst (λ m. (exactly any m).lang text text) e (spell_exactly any text (all_any text))))

-- the whole line of a command
module _ (tag_front verb_front rest : List ℕ) (v : Verb) (it : MCommand) where
  spell_command : mupdate_tags.whole tag_front ≡ true → command_verb_form.part.lang verb_front v → (command_arguments exact v).part.lang rest it
      → IsCommandLine (tag_front ++ 32 ∷ (((verb_front ++ rest) ++ 13 ∷ []) ++ 10 ∷ [])) (Text tag_front, it)
  unfolding command_line
  spell_command t w a =
      let all : Form MCommand = dispatch command_verb_form command_verb (command_arguments exact) in
      spell_spaced command_tag (ended_line all) tag_front (((verb_front ++ rest) ++ 13 ∷ []) ++ 10 ∷ []) (Text tag_front) it
      (spell_map Text (word mupdate_tags) tag_front tag_front (refl, t))
      (spell_line all (verb_front ++ rest) it (spell_then command_verb_form.part (λ k. (command_arguments exact k).part) verb_front rest v it w a))

-- the line goes on with any text in place of that literal

record Front (bytes : List ℕ) (n : ℕ) : Type 0 where
  tag : List ℕ
  verb_text : List ℕ
  before : List ℕ
  command : Verb
  parts : bytes ≡ tag ++ 32 ∷ (verb_text ++ 32 ∷ before)
  tagged : mupdate_tags.whole tag ≡ true
  named : command_verb_form.part.lang verb_text command
  arguments_are : (text : List ℕ) → length text ≡ n → (it : MCommand) × (command_arguments exact command).part.lang (32 ∷ (before ++ text)) it

with_any : (v : Verb) (before : List ℕ) (n : ℕ) → (up_to_any v).lang before n → (text : List ℕ) → length text ≡ n
    → (it : MCommand) × (command_arguments exact v).part.lang (32 ∷ (before ++ text)) it
unfolding up_to_any command_arguments
with_any verb.Activate before n j text e =
    let z = j.goes_on.goes_on in
    let sized : List ℕ = z.goes_on.back in
    let behind_name : List ℕ = z.front ++ 32 ∷ (sized ++ text) in
    let parts : before ≡ j.front ++ 32 ∷ (z.front ++ 32 ∷ sized) =
    sp_text name (λ _. location sp λ _. header 0 STRING_LIMIT) before n j
    ∙ ap (λ s. j.front ++ 32 ∷ s) (sp_text location (λ _. header 0 STRING_LIMIT) j.goes_on.back n z) in
    let all : 32 ∷ (before ++ text) ≡ 32 ∷ (j.front ++ 32 ∷ behind_name) =
    ap (λ s. 32 ∷ (s ++ text)) parts ∙ ap (λ s. 32 ∷ s) (regroup j.front z.front sized text) in (
      command.Activate j.between z.between text,
      subst (λ s. (command_arguments exact verb.Activate).part.lang s (command.Activate j.between z.between text)) (sym all)
          (spell_map (λ x. command.Activate x.0 x.1.0 x.1.1) (a_mailbox exact).part (32 ∷ (j.front ++ 32 ∷ behind_name)) (j.between, (z.between, text))
          (spell_byte 32 (name_form spaced (location_form spaced string_form)).part (j.front ++ 32 ∷ behind_name) (j.between, (z.between, text))
          (spell_spaced name_form (location_form spaced string_form) j.front behind_name j.between (z.between, text) j.begins
          (spell_spaced location_form string_form z.front (sized ++ text) z.between text z.begins (spell_any sized text n z.goes_on.goes_on e))))),
    )
  where
    regroup : (one two sized text : List ℕ) → (one ++ 32 ∷ (two ++ 32 ∷ sized)) ++ text ≡ one ++ 32 ∷ (two ++ 32 ∷ (sized ++ text))
    regroup one two sized text = simp append_assoc
with_any verb.List before n l text e = (
  command.List (Some text),
  spell_map command.List maybe_string.part (32 ∷ (before ++ text)) (Some text)
      (inl (spell_byte 32 (map Some mupdate_string) (before ++ text) (Some text) (spell_map Some mupdate_string (before ++ text) text (spell_any before text n l e)))),
)
with_any verb.Deactivate before n l text e = absurd l
with_any verb.Delete before n l text e = absurd l
with_any verb.Find before n l text e = absurd l
with_any verb.Logout before n l text e = absurd l
with_any verb.Noop before n l text e = absurd l
with_any verb.Reserve before n l text e = absurd l
with_any verb.Update before n l text e = absurd l

front_of : (bytes : List ℕ) (n : ℕ) → head.lang bytes n → Front bytes n
unfolding head
front_of bytes n j =
    let m = j.goes_on.goes_on in
    record {
      tag = j.front;
      verb_text = m.front;
      before = m.goes_on.back;
      command = m.between;
      parts = sp_text (word mupdate_tags) (λ _. command_verb_form.part sp up_to_any) bytes n j
          ∙ ap (λ t. j.front ++ 32 ∷ t) (sp_text command_verb_form.part up_to_any j.goes_on.back n m);
      tagged = ap mupdate_tags.whole j.begins.0 ∙ j.begins.1;
      named = m.begins;
      arguments_are = with_any m.between m.goes_on.back n m.goes_on.goes_on;
    }

-- so many zeros
zeros : ℕ → List ℕ
zeros zero = []
zeros (suc n) = 0 ∷ zeros n

length-zeros : (n : ℕ) → length (zeros n) ≡ n
unfolding zeros
length-zeros zero = refl
length-zeros (suc n) = ap suc (length-zeros n)

-- the line that begins so, with this text as its literal
whole_line : (bytes : List ℕ) (n : ℕ) (f : Front bytes n) (text : List ℕ) → length text ≡ n → (it : Tag × MCommand) × IsCommandLine ((bytes ++ text) ++ 13 ∷ 10 ∷ []) it
whole_line bytes n f text e =
    let a = f.arguments_are text e in
    let rest : List ℕ = 32 ∷ (f.before ++ text) in
    let line_is : f.tag ++ 32 ∷ (((f.verb_text ++ rest) ++ 13 ∷ []) ++ 10 ∷ []) ≡ (bytes ++ text) ++ 13 ∷ 10 ∷ [] =
    sym (ap (λ s. (s ++ text) ++ 13 ∷ 10 ∷ []) f.parts ∙ regroup f.tag f.verb_text f.before text) in
    ((Text f.tag, a.0), subst (λ s. IsCommandLine s (Text f.tag, a.0)) line_is (spell_command f.tag f.verb_text rest f.command a.0 f.tagged f.named a.1))
  where
    regroup : (tag verb before text : List ℕ) → ((tag ++ 32 ∷ (verb ++ 32 ∷ before)) ++ text) ++ 13 ∷ 10 ∷ []
        ≡ tag ++ 32 ∷ (((verb ++ 32 ∷ (before ++ text)) ++ 13 ∷ []) ++ 10 ∷ [])
    regroup tag verb before text = simp append_assoc

pub head_skips : (bytes : List ℕ) (n : ℕ) → head.lang bytes n → (text : List ℕ) → length text ≤ n → goes_on (bytes ++ text) ≡ true
head_skips bytes n l text room =
    let pad : List ℕ = zeros (n - length text) in
    let all : List ℕ = text ++ pad in
    let size : length all ≡ n = omega (arith, length-append text pad, length-zeros (n - length text)) in
    let whole = whole_line bytes n (front_of bytes n l) all size in
    goes_from (bytes ++ text) (record {
      more = pad ++ 13 ∷ 10 ∷ [];
      value = whole.0;
      some = omega (arith, length-append pad (13 ∷ 10 ∷ []));
      whole = subst (λ s. IsCommandLine s whole.0) (regroup text pad) whole.1;
    })
  where
    regroup : (text pad : List ℕ) → (bytes ++ (text ++ pad)) ++ 13 ∷ 10 ∷ [] ≡ (bytes ++ text) ++ (pad ++ 13 ∷ 10 ∷ [])
    regroup text pad = simp append_assoc
