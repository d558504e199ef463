-- The front of a line up to the end of the header of a literal that may be any text: it is read just so, whatever follows, and ends with
-- an LF.
use Rattle.std.proofs.Common.{◌≡◌, ℕ, List, [], ◌∷◌, ◌++◌, Bool, true, false, ◌==◌, Ok, refl, sym, ap, ◌∙◌}
use Rattle.std.proofs.Common.{append_assoc, arith, eqb-true}
use Rattle.grammar.specs.Part.{Part, ◌>>=◌, ◌then◌, ◌sp◌, give, map, byte, taken, optional}
use Rattle.grammar.specs.Exact.{Good, any, among}
use Rattle.grammar.specs.Forms.{Form, Law, as_it_stands, begins_row, followed}
use Rattle.grammar.specs.Words.{word}
use Rattle.grammar.proofs.Reading.{Went, went, ok_parts}
use Rattle.grammar.proofs.FormLaw.{law_followed}
use Rattle.grammar.proofs.NamesLaw.{law_table}
use Rattle.grammar.proofs.ToolLaws.{good_byte}
use Rattle.grammar.proofs.Spelling.{spell_then, spell_map, spell_one}
use Rattle.mupdate_codec.specs.declared.word.Verb.{Verb}
use Rattle.mupdate_codec.specs.declared.word.Verb.TheVariants as verb
use Rattle.mupdate_codec.specs.declared.limits.TheConstants.{STRING_LIMIT}
use Rattle.mupdate_codec.specs.Commands.{command_word, command_verb_form, command_verbs}
use Rattle.mupdate_codec.specs.Sizes.{size}
use Rattle.mupdate_codec.specs.Strings.{header, name, location}
use Rattle.mupdate_codec.specs.Tags.{mupdate_tags}
use Rattle.mupdate_codec.specs.Waits.{nowhere, up_to_any, head}
use Rattle.mupdate_codec.proofs.AnswersLaw.{line_read}
use Rattle.mupdate_codec.proofs.LinesLaw.{law_tags}
use Rattle.mupdate_codec.proofs.StringsLaw.{good_name, good_location, good_header, line_end, behind_size}

-- a form and a byte
pub spell_followed : {A : Type 0} (p : Form A) (c : ℕ) (s : List ℕ) (a : A) → p.part.lang s a → (followed p c).part.lang (s ++ c ∷ []) a
spell_followed p c s a l = spell_then p.part (λ a. map (λ _. a) (byte c)) s (c ∷ []) a a l (spell_map (λ _. a) (byte c) (c ∷ []) c (spell_one c))

-- what is read of the front

record Sound {A : Type 0} (p : Part A) : Type 0 where
  read : (bytes rest : List ℕ) (a : A) → p.at bytes ≡ Ok (a, rest) → (front : List ℕ) × (bytes ≡ front ++ rest) × p.lang front a

sound_then : {A B : Type 0} (p : Part A) (f : A → Part B) → Sound p → ((a : A) → Sound (f a)) → Sound (p then f)
sound_then {A} {B} p f s r = record { read = λ bytes rest b e. by_went bytes rest b (went (p.at bytes) (λ a. (f a).at) (b, rest) e) }
  where
    by_went : (bytes rest : List ℕ) (b : B) → Went (p.at bytes) (λ a. (f a).at) (b, rest) → (front : List ℕ) × (bytes ≡ front ++ rest) × (p then f).lang front b
    by_went bytes rest b w =
        let one = s.read bytes w.rest w.value w.was in
        let two = (r w.value).read w.rest rest b w.gave in (
          one.0 ++ two.0,
          one.1 ∙ ap (λ x. one.0 ++ x) two.1 ∙ sym (append_assoc one.0 two.0 rest),
          record { front = one.0; back = two.0; between = w.value; parts = refl; begins = one.2; goes_on = two.2 },
        )

sound_nowhere : {A : Type 0} → Sound (nowhere {A = A})
sound_nowhere = record { read = λ bytes rest a e. cc }

sound_good : {A : Type 0} {after : ℕ → Bool} (p : Part A) → Good ℕ after p → Sound p
sound_good p g = record { read = g.sound }

sound_sp : {A B : Type 0} (p : Part A) (f : A → Part B) → Sound p → ((a : A) → Sound (f a)) → Sound (p sp f)
sound_sp p f s r =
    sound_then p (λ a. byte 32 then λ _. f a) s
    (λ a. sound_then (byte 32) (λ _. f a) (sound_good (byte 32) (good_byte any 32)) (λ _. r a))

sound_header : Sound (header 0 STRING_LIMIT)
sound_header = sound_good (header 0 STRING_LIMIT) (good_header any 0 STRING_LIMIT (omega arith) (omega arith))

sound_any : (v : Verb) → Sound (up_to_any v)
unfolding up_to_any
sound_any verb.Activate =
    sound_sp name (λ _. location sp λ _. header 0 STRING_LIMIT) (sound_good name (good_name any))
    (λ _. sound_sp location (λ _. header 0 STRING_LIMIT) (sound_good location (good_location any)) (λ _. sound_header))
sound_any verb.List = sound_header
sound_any v = sound_nowhere

law_verbs : Law (begins_row command_verbs) (among (32 ∷ 13 ∷ [])) command_verb_form
unfolding command_word
law_verbs = law_table verb.Update command_verbs command_word refl refl (32 ∷ 13 ∷ []) refl refl

sound_head : Sound head
unfolding head
sound_head =
    sound_sp (word mupdate_tags) (λ _. command_verb_form.part sp up_to_any) (sound_good (word mupdate_tags) (law_tags.good ℕ))
    (λ _. sound_sp command_verb_form.part up_to_any (sound_good command_verb_form.part (law_verbs.good ℕ)) sound_any)

-- each front is read, whatever follows

record Reads {A : Type 0} (p : Part A) : Type 0 where
  read : (s rest : List ℕ) (a : A) → p.lang s a → p.at (s ++ rest) ≡ Ok (a, rest)

-- before a space
record ReadsBefore {A : Type 0} (p : Part A) : Type 0 where
  read : (s rest : List ℕ) (a : A) → p.lang s a → p.at (s ++ 32 ∷ rest) ≡ Ok (a, 32 ∷ rest)

before_any : {A : Type 0} (p : Part A) → ((V : Type 0) → Good V any p) → ReadsBefore p
before_any p good = record { read = λ s rest a l. line_read p good s (32 ∷ rest) a l }

-- a space that is read
space_read : {A : Type 0} (a b : A) (bytes rest : List ℕ) → (map (λ _. b) (byte 32)).at bytes ≡ Ok (a, rest) → (b ≡ a) × (bytes ≡ 32 ∷ rest)
space_read {A} a b [] rest e = cc
space_read {A} a b (c ∷ bytes) rest e = by_test (c == 32) refl e
  where
    by_test : (t : Bool) → (c == 32) ≡ t → taken t c bytes >>= (λ _ r. (give b).at r) ≡ Ok (a, rest) → (b ≡ a) × ((let s : List ℕ = c ∷ bytes in s) ≡ 32 ∷ rest)
    by_test true is e = let same = ok_parts e in (same.0, ap (λ d. d ∷ bytes) (eqb-true c 32 is) ∙ ap (λ r. 32 ∷ r) same.1)
    by_test false is e = cc

before_law : {A : Type 0} {starts wide : ℕ → Bool} (p : Form A) → wide 32 ≡ true → Law starts wide p → ReadsBefore p.part
before_law {A} p is g = record { read = λ s rest a l. by_went s rest a (went (p.part.at (s ++ 32 ∷ rest)) (λ b. (map (λ _. b) (byte 32)).at) (a, rest) (whole s rest a l)) }
  where
    whole : (s rest : List ℕ) (a : A) → p.part.lang s a → (followed p 32).part.at (s ++ 32 ∷ rest) ≡ Ok (a, rest)
    whole s rest a l =
        ap (followed p 32).part.at (sym (append_assoc s (32 ∷ []) rest))
        ∙ line_read (followed p 32).part (law_followed any 32 p is g).good (s ++ 32 ∷ []) rest a (spell_followed p 32 s a l)

    by_went : (s rest : List ℕ) (a : A) → Went (p.part.at (s ++ 32 ∷ rest)) (λ b. (map (λ _. b) (byte 32)).at) (a, rest)
        → p.part.at (s ++ 32 ∷ rest) ≡ Ok (a, 32 ∷ rest)
    by_went s rest a w =
        let one = space_read a w.value w.rest rest w.gave in
        w.was ∙ ap (λ b. Ok (b, w.rest)) one.0 ∙ ap (λ r. Ok (a, r)) one.1

pub byte_text : (c : ℕ) (s : List ℕ) (v : ℕ) → (byte c).lang s v → s ≡ c ∷ []
byte_text c s v l = l.0 ∙ ap (λ d. d ∷ []) (eqb-true v c l.1)

-- the two texts beside a space
pub sp_text : {A B : Type 0} (p : Part A) (f : A → Part B) (s : List ℕ) (b : B) (j : (p sp f).lang s b) → s ≡ j.front ++ 32 ∷ j.goes_on.back
sp_text p f s b j =
    j.parts ∙ ap (λ t. j.front ++ t) (j.goes_on.parts ∙ ap (λ t. t ++ j.goes_on.back) (byte_text 32 j.goes_on.front j.goes_on.between j.goes_on.begins))

reads_sp : {A B : Type 0} (p : Part A) (f : A → Part B) → ReadsBefore p → ((a : A) → Reads (f a)) → Reads (p sp f)
reads_sp p f first next = record {
  read = λ s rest b j.
      let k = j.goes_on in
      ap (p sp f).at (ap (λ t. t ++ rest) (sp_text p f s b j) ∙ append_assoc j.front (32 ∷ k.back) rest)
      ∙ ap (λ r. r >>= (λ a. (byte 32 then λ _. f a).at)) (first.read j.front (k.back ++ rest) j.between j.begins)
      ∙ (next j.between).read k.back rest b k.goes_on;
}

reads_header : Reads (header 0 STRING_LIMIT)
reads_header = record { read = line_read (header 0 STRING_LIMIT) (λ V. good_header any 0 STRING_LIMIT (omega arith) (omega arith)) }

reads_any : (v : Verb) → Reads (up_to_any v)
unfolding up_to_any
reads_any verb.Activate =
    reads_sp name (λ _. location sp λ _. header 0 STRING_LIMIT) (before_any name (λ V. good_name any))
    (λ _. reads_sp location (λ _. header 0 STRING_LIMIT) (before_any location (λ V. good_location any)) (λ _. reads_header))
reads_any verb.List = reads_header
reads_any v = record { read = λ s rest a l. absurd l }

reads_head : Reads head
unfolding head
reads_head =
    reads_sp (word mupdate_tags) (λ _. command_verb_form.part sp up_to_any) (before_law (as_it_stands mupdate_tags) refl law_tags)
    (λ _. reads_sp command_verb_form.part up_to_any (before_law command_verb_form refl law_verbs) reads_any)

pub head_read : (front rest : List ℕ) (n : ℕ) → head.lang front n → head.at (front ++ rest) ≡ Ok (n, rest)
head_read = reads_head.read

pub head_found : (bytes rest : List ℕ) (n : ℕ) → head.at bytes ≡ Ok (n, rest) → (front : List ℕ) × (bytes ≡ front ++ rest) × head.lang front n
head_found = sound_head.read

-- each ends with an LF

abbrev EndsWithLf : {A : Type 0} → Part A → Type 0
EndsWithLf {A} p = (s : List ℕ) (a : A) → p.lang s a → (f : List ℕ) × (s ≡ f ++ 10 ∷ [])

ends_then : {A B : Type 0} (p : Part A) (f : A → Part B) → ((a : A) → EndsWithLf (f a)) → EndsWithLf (p then f)
ends_then p f e s b j =
    let last = e j.between j.back b j.goes_on in
    (j.front ++ last.0, j.parts ∙ ap (λ t. j.front ++ t) last.1 ∙ sym (append_assoc j.front last.0 (10 ∷ [])))

ends_sp : {A B : Type 0} (p : Part A) (f : A → Part B) → ((a : A) → EndsWithLf (f a)) → EndsWithLf (p sp f)
ends_sp p f e = ends_then p (λ a. byte 32 then λ _. f a) (λ a. ends_then (byte 32) (λ _. f a) (λ _. e a))

ends_lf : (n : ℕ) → EndsWithLf (map (λ _. n) (byte 10))
ends_lf n s a j = ([], j.parts ∙ ap (λ t. t ++ j.back) (byte_text 10 j.front j.between j.begins) ∙ ap (λ t. 10 ∷ t) j.goes_on.0)

ends_header : EndsWithLf (header 0 STRING_LIMIT)
ends_header =
    ends_then (byte 123) (λ _. size 0 STRING_LIMIT then behind_size)
    (λ _. ends_then (size 0 STRING_LIMIT) behind_size
    (λ n. ends_then (optional 43) (λ _. byte 125 then λ _. line_end n)
    (λ _. ends_then (byte 125) (λ _. line_end n) (λ _. ends_then (byte 13) (λ _. map (λ _. n) (byte 10)) (λ _. ends_lf n)))))

ends_any : (v : Verb) → EndsWithLf (up_to_any v)
unfolding up_to_any
ends_any verb.Activate =
    ends_sp name (λ _. location sp λ _. header 0 STRING_LIMIT) (λ _. ends_sp location (λ _. header 0 STRING_LIMIT) (λ _. ends_header))
ends_any verb.List = ends_header
ends_any v = λ s a l. absurd l

pub head_ends : (front : List ℕ) (n : ℕ) → head.lang front n → (f : List ℕ) × (front ≡ f ++ 10 ∷ [])
unfolding head
head_ends =
    ends_sp (word mupdate_tags) (λ _. command_verb_form.part sp up_to_any) (λ _. ends_sp command_verb_form.part up_to_any ends_any)
