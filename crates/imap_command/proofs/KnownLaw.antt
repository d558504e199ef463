-- The law of the known commands, and the names that their lines begin with.
use Rattle.std.proofs.Common.{◌≡◌, ℕ, List, [], ◌∷◌, ◌++◌, map as each, Bool, true, false, ◌||◌, not, refl, sym, ap, ◌∙◌, subst, append_assoc, append-nil}
use Rattle.std.proofs.Common.{eqb-true, codes}
use Rattle.grammar.specs.Part.{Part, give, map, byte}
use Rattle.grammar.specs.Exact.{Begins, StartsWith, none}
use Rattle.grammar.specs.Forms.{Form, Law, begins_row, names_of, named}
use Rattle.grammar.proofs.FormLaw.{Branch, law_dispatch}
use Rattle.grammar.proofs.NamesApart.{is_some, names_with, named_with, name_append, some_behind, some_left, some_right}
use Rattle.grammar.proofs.NamesLaw.{law_table}
use Rattle.grammar.proofs.Reading.{empty_halves}
use Rattle.grammar.proofs.SequenceLaw.{good_then, good_map}
use Rattle.grammar.proofs.Spelling.{spell_then, spell_map}
use Rattle.grammar.proofs.StartLaw.{starts_then, starts_byte}
use Rattle.grammar.proofs.ToolLaws.{begins_then}
use Rattle.imap_command.specs.Commands.{arguments, printed_as, uid_arguments, uid_command, verb_of}
use Rattle.imap_text.specs.Strings.{crlf_part}
use Rattle.imap_command.specs.Spells.{line, known}
use Rattle.imap_command.specs.Verbs.{is_uid_verb, verbs, verb_form, name_text, uid_verbs}
use Rattle.imap_command.specs.declared.verb.Verb.{Verb}
use Rattle.imap_command.specs.declared.verb.Verb.TheVariants as verb
use Rattle.imap_types.specs.declared.command.Command.{Command}
use Rattle.imap_types.specs.declared.command.Command.TheVariants as command
use Rattle.imap_command.proofs.ArgumentsLaw.{ends_atom, ends_line}
use Rattle.imap_command.proofs.CommandsLaw.{branch_of, uid_branch}
use Rattle.imap_text.proofs.StringsLaw.{good_crlf}
use Rattle.imap_text.proofs.StringsPrinted.{spell_crlf}

pub starts_crlf : {A : Type 0} (a : A) → StartsWith ends_line (map (λ _. a) crlf_part)
unfolding crlf_part
starts_crlf a = starts_then crlf_part (λ _. give a) (starts_then (byte 13) (λ _. byte 10) (starts_byte 13))

module _ {A : Type 0} {starts : ℕ → Bool} (p : Form A) (g : Law starts ends_line p) where
  last : A → Part A
  last a = map (λ _. a) crlf_part

  begins_last : (a : A) → Begins ends_line none (last a)
  unfolding last
  begins_last a = record { full = (starts_crlf a).full; empty = λ b l. absurd ((starts_crlf a).empty b l) }

  law_line : Law starts none (line p)
  unfolding last
  law_line = record {
    good = λ V. good_then p.part last (g.good V) (λ a. good_map (λ _. a) crlf_part (good_crlf none)) begins_last;
    begins = begins_then p.part last g.begins begins_last;
    prints = λ bytes x j.
        let a = j.between in
        subst (λ x. (line p).part.lang (p.text x ++ 13 ∷ 10 ∷ []) x) (sym j.goes_on.goes_on.1)
        (spell_then p.part last (p.text a) (13 ∷ 10 ∷ []) a a (g.prints j.front a j.begins) (spell_map (λ _. a) crlf_part (13 ∷ 10 ∷ []) 10 spell_crlf));
  }

  -- a line is never empty
  starts_line : StartsWith starts (line p).part
  starts_line = record {
    full = law_line.begins.full;
    empty = λ a j.
        (starts_crlf j.between).empty a
        (subst (λ s. (map (λ _. j.between) crlf_part).lang s a) (empty_halves j.front j.back j.parts).1 j.goes_on);
  }

line_branch : (v : Verb) → Branch ends_atom none verb_of v (line (arguments v))
line_branch v = record {
  law = law_line (arguments v) (branch_of v).law;
  keyed = λ bytes it j. ap verb_of j.goes_on.goes_on.1 ∙ (branch_of v).keyed j.front j.between j.begins;
}

pub law_known : Law (begins_row verbs) none known
unfolding name_text
law_known =
    law_dispatch verb_form verb_of (λ v. line (arguments v)) (law_table verb.Uid verbs name_text refl refl (32 ∷ 13 ∷ []) refl refl) line_branch

-- no command that is left out is known
noop_apart : (octets bytes : List ℕ) → (line (arguments verb.Noop)).part.lang bytes (command.LeftOut octets) → ⊥
unfolding arguments
noop_apart octets bytes j =
    let both : command.LeftOut octets ≡ command.Noop = j.goes_on.goes_on.1 ∙ j.begins.goes_on.1 in cc

pub not_known : (octets bytes : List ℕ) → ¬ known.part.lang bytes (command.LeftOut octets)
unfolding printed_as
not_known octets bytes j =
    let v = j.between in
    let is : verb.Noop ≡ v = (line_branch v).keyed j.back (command.LeftOut octets) j.goes_on in
    noop_apart octets j.back (subst (λ v. (line (arguments v)).part.lang j.back (command.LeftOut octets)) (sym is) j.goes_on)

-- the bytes begin with one of these names, behind which a space or the end of the line stands
pub record BeginsWith (names : List (List ℕ)) (bytes : List ℕ) : Type 0 where
  pub name : List ℕ
  pub next : ℕ
  pub rest : List ℕ
  pub parts : bytes ≡ name ++ (next ∷ rest)
  pub ends : ends_atom next ≡ true
  pub is : is_some names name ≡ true

pub begins_by : {A : Type 0} (names : List (List ℕ)) (p : Part A) → StartsWith ends_atom p → (bytes name back : List ℕ) (a : A) → bytes ≡ name ++ back
    → p.lang back a → is_some names name ≡ true → BeginsWith names bytes
begins_by names p s bytes name [] a e l is = absurd (s.empty a l)
begins_by names p s bytes name (c ∷ rest) a e l is = record { name = name; next = c; rest = rest; parts = e; ends = s.full c rest a l; is = is }

-- the first words of known commands; of UID and the word behind it
abbrev pub known_names : List (List ℕ)
known_names = names_with (λ v. not (is_uid_verb v)) verbs ++ each (λ name. codes "UID " ++ name) (names_of uid_verbs)

uid_only : (v : Verb) → is_uid_verb v ≡ true → v ≡ verb.Uid
unfolding is_uid_verb
uid_only verb.Uid h = refl
uid_only v h = cc

or_false : (a : Bool) → a || false ≡ true → a ≡ true
or_false true h = refl
or_false false h = h

-- where the first word is UID
uid_name : (name : List ℕ) → is_some (names_of verbs) name ≡ true → is_uid_verb (named verb.Uid verbs name) ≡ true
    → is_some (names_with is_uid_verb verbs) name ≡ true
uid_name name whole h = named_with is_uid_verb verb.Uid verbs name whole h

uid_begins : (bytes name back : List ℕ) (it : Command) → bytes ≡ name ++ back → is_some (codes "UID" ∷ []) name ≡ true
    → (line uid_command).part.lang back it → BeginsWith known_names bytes
uid_begins bytes name back it e is m =
    let n = m.begins in
    let d = n.goes_on in
    let u = d.begins in
    let more = u.between in
    let front : n.front ≡ 32 ∷ [] = n.begins.0 ∙ ap (λ c. c ∷ []) (eqb-true n.between 32 n.begins.1) in
    let word : d.front ≡ more = u.parts ∙ ap (λ s. u.front ++ s) u.goes_on.0 ∙ append-nil u.front ∙ u.begins.0 in
    let first : m.front ≡ 32 ∷ (more ++ d.back) = n.parts ∙ ap (λ s. s ++ n.back) front ∙ ap (λ s. 32 ∷ s) (d.parts ∙ ap (λ s. s ++ d.back) word) in
    let behind : back ≡ 32 ∷ (more ++ (d.back ++ m.back)) =
    m.parts ∙ ap (λ s. s ++ m.back) first ∙ ap (λ s. 32 ∷ s) (append_assoc more d.back m.back) in
    let text = (name ++ 32 ∷ []) ++ more in
    let parts : bytes ≡ text ++ (d.back ++ m.back) =
    e ∙ ap (λ s. name ++ s) behind ∙ sym (append_assoc name (32 ∷ []) (more ++ (d.back ++ m.back)))
    ∙ sym (append_assoc (name ++ 32 ∷ []) more (d.back ++ m.back)) in
    begins_by known_names (line (uid_arguments d.between)).part (starts_line (uid_arguments d.between) (uid_branch d.between).law) bytes text
    (d.back ++ m.back) it parts
    (record { front = d.back; back = m.back; between = m.between; parts = refl; begins = d.goes_on; goes_on = m.goes_on })
    (some_right (names_with (λ v. not (is_uid_verb v)) verbs) (each (λ name. codes "UID " ++ name) (names_of uid_verbs)) text
    (some_behind (codes "UID ") (names_of uid_verbs) (name ++ 32 ∷ []) more
    (name_append (codes "UID") (32 ∷ []) name (32 ∷ []) (or_false _ is) refl) u.begins.1))

-- what a known command begins with
pub known_begins : (bytes : List ℕ) (it : Command) → known.part.lang bytes it → BeginsWith known_names bytes
unfolding arguments is_uid_verb
known_begins bytes it j =
    let w = j.begins in
    let name = w.between in
    let front : j.front ≡ name = w.parts ∙ ap (λ s. w.front ++ s) w.goes_on.0 ∙ append-nil w.front ∙ w.begins.0 in
    let v : j.between ≡ named verb.Uid verbs name = w.goes_on.1 in
    by_uid name (is_uid_verb j.between) (j.parts ∙ ap (λ s. s ++ j.back) front) w.begins.1 v refl
  where
    by_uid : (name : List ℕ) (b : Bool) → bytes ≡ name ++ j.back → is_some (names_of verbs) name ≡ true → j.between ≡ named verb.Uid verbs name
        → is_uid_verb j.between ≡ b → BeginsWith known_names bytes
    by_uid name true e whole v is =
        uid_begins bytes name j.back it e (uid_name name whole (ap is_uid_verb (sym v) ∙ is))
        (subst (λ v. (line (arguments v)).part.lang j.back it) (uid_only j.between is) j.goes_on)
    by_uid name false e whole v is =
        begins_by known_names (line (arguments j.between)).part (starts_line (arguments j.between) (branch_of j.between).law) bytes name j.back it e j.goes_on
        (some_left (names_with (λ v. not (is_uid_verb v)) verbs) (each (λ name. codes "UID " ++ name) (names_of uid_verbs)) name
        (named_with (λ v. not (is_uid_verb v)) verb.Uid verbs name whole (ap (λ v. not (is_uid_verb v)) (sym v) ∙ ap not is)))
