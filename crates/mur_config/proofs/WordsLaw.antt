-- What `clap` finds in words among which no option stands.
use Rattle.std.proofs.Common.{◌≡◌, ◌∙◌, Bool, true, false, is_none, List, [], ◌∷◌, ◌++◌, Option, None, Some, if◌then◌else◌, refl, sym, ap, subst, codes, inl, inr}
use Rattle.std.specs.Prelude.{⊤, option_map, option_and_then, unwrap_or}
use Rattle.std.specs.Str.{bytes_eq}
use Rattle.std.specs.Cmp.Lexicographic.{same_text}
use Rattle.std.proofs.lemmas.Bool.{eqb-true}
use Rattle.clap.specs.Words.{App, HasMatchesOf, Row, Text, first_of, first_value, found_of, is_simple, kind_of, rows_of, subcommand_name_of, subcommand_of, subcommand_rows_of}
use Rattle.clap.specs.declared.error.Error.{Error}
use Rattle.clap.specs.declared.error.kind.ErrorKind.TheVariants.{OutOfMemory}
use Rattle.clap.specs.declared.parser.matches.ArgMatches.{ArgMatches}
use Rattle.clap.specs.declared.parser.matches.ArgMatches.TheViews.{out-ArgMatches, out-SubCommand}
use Rattle.clap.specs.declared.parser.matches.Found.{Found}
use Rattle.std.specs.Box.{box_value}
use Rattle.clap.specs.Lexer.{strip_byte}
use Rattle.clap.specs.Simple.{Shape, built_leaf, inherited, built}
use Rattle.clap.specs.Walk.{Names, Walk, nothing_held, rows_after, walk_from}
use Rattle.clap.specs.Faults.{fault_of, is_simple_and_free, level_fault, walk_fault}
use Rattle.clap.specs.Kinds.{HasKind, IsAmong, Kinds, or_else}
use Rattle.clap.specs.declared.builder.value_parser.Reading.TheVariants as reading
use Rattle.clap.specs.declared.parser.matches.ValueSource.TheVariants.{CommandLine}
use Rattle.clap.proofs.OnLiterals.{clap_on_literals}
use Rattle.clap.proofs.WalkLemmas.{first_value-rows, walk_stopped}
use Rattle.mur_config.specs.Words.{ends_options, is_option, operands_of, replay_of, drill_of, job_named, job_of}
use Rattle.mur_config.specs.WordsCommand.{form, bare, words_command}
use Rattle.mur_config.specs.declared.job.Job.{Job}
use Rattle.mur_config.proofs.Texts.{bytes_eq_both_ways}

-- a form as it is built
abbrev leaf : Text → Shape
leaf name = built_leaf (inherited bare.top (form name).top)

-- the kinds of error of a form's operands
abbrev leaf_fault : Text → List Text → Kinds
leaf_fault name words = level_fault (leaf name) [] nothing_held words false []

abbrev leaf_rows : Text → List Text → List Row
leaf_rows name words = rows_after (leaf name).rules [] words

abbrev row : Text → Text → Row
row id word = record { id = id; values = word ∷ []; count = None; source = Some CommandLine; reading = reading.AsWritten }

abbrev pub two_rows : Text → Text → List Row
two_rows first second = row (codes "first") first ∷ row (codes "second") second ∷ []

no_minus : (word : Text) → is_option word ≡ false → strip_byte 45 word ≡ None
unfolding is_option
no_minus [] h = refl
no_minus (byte ∷ rest) h = rw h refl

none_of_none : (name : Text) → job_named name [] ≡ None
unfolding job_named replay_of drill_of
none_of_none name = by (bytes_eq name (codes "replay")) (bytes_eq name (codes "drill"))
  where
    by : (a b : Bool) → ◌≡◌ {A = Option Job} (if a then None else (if b then None else None)) None
    by true b = refl
    by false true = refl
    by false false = refl

none_of_one : (name a : Text) → job_named name (a ∷ []) ≡ None
unfolding job_named replay_of drill_of
none_of_one name a = by (bytes_eq name (codes "replay")) (bytes_eq name (codes "drill"))
  where
    by : (a b : Bool) → ◌≡◌ {A = Option Job} (if a then None else (if b then None else None)) None
    by true b = refl
    by false true = refl
    by false false = refl

none_of_three : (name a b c : Text) (rest : List Text) → job_named name (a ∷ b ∷ c ∷ rest) ≡ None
unfolding job_named replay_of drill_of
none_of_three name a b c rest = by (bytes_eq name (codes "replay")) (bytes_eq name (codes "drill"))
  where
    by : (a b : Bool) → ◌≡◌ {A = Option Job} (if a then None else (if b then None else None)) None
    by true b = refl
    by false true = refl
    by false false = refl

-- what the words behind a form are
data FormReads (name : Text) (words : List Text) : List Text → Type 0 where
  wrong : (operands : List Text) → (leaf_fault name words ≡ [] → ⊥) → ((other : Text) → job_named other operands ≡ None) → FormReads name words operands
  just_two : (first second : Text) → leaf_fault name words ≡ [] → leaf_rows name words ≡ two_rows first second → FormReads name words (first ∷ second ∷ [])

-- ---- no word, or `--` in front

nothing : (name : Text) → FormReads name [] []
unfolding clap_on_literals
nothing name = wrong [] (λ h. cc) none_of_none

trailing : (name dashes : Text) (rest : List Text) → ends_options dashes ≡ true → FormReads name (dashes ∷ rest) rest
unfolding clap_on_literals ends_options
trailing name dashes [] e = wrong [] (λ h. let g = rw e at h in cc) none_of_none
trailing name dashes (a ∷ []) e = wrong (a ∷ []) (λ h. let g = rw e at h in cc) (λ other. none_of_one other a)
trailing name dashes (a ∷ b ∷ []) e = just_two a b (rw e refl) (rw e refl)
trailing name dashes (a ∷ b ∷ c ∷ rest) e = wrong (a ∷ b ∷ c ∷ rest) (λ h. let g = rw e at h in cc) (λ other. none_of_three other a b c rest)

-- ---- one operand in front

one_alone : (name a : Text) → ends_options a ≡ false → is_option a ≡ false → FormReads name (a ∷ []) (a ∷ [])
unfolding clap_on_literals ends_options
one_alone name a e o = wrong (a ∷ []) (λ h. let g = rw (e, no_minus a o, no_minus a o) at h in cc) (λ other. none_of_one other a)

behind_one : (name a dashes : Text) (rest : List Text) → ends_options a ≡ false → is_option a ≡ false → ends_options dashes ≡ true
    → FormReads name (a ∷ dashes ∷ rest) (a ∷ rest)
unfolding clap_on_literals ends_options
behind_one name a dashes [] e o d = wrong (a ∷ []) (λ h. let g = rw (e, no_minus a o, no_minus a o, d) at h in cc) (λ other. none_of_one other a)
behind_one name a dashes (b ∷ []) e o d = just_two a b (rw (e, no_minus a o, no_minus a o, d) refl) (rw (e, no_minus a o, no_minus a o, d) refl)
behind_one name a dashes (b ∷ c ∷ rest) e o d =
    wrong (a ∷ b ∷ c ∷ rest) (λ h. let g = rw (e, no_minus a o, no_minus a o, d) at h in cc) (λ other. none_of_three other a b c rest)

-- ---- two operands in front

two_alone : (name a b : Text) → ends_options a ≡ false → is_option a ≡ false → ends_options b ≡ false → is_option b ≡ false
    → FormReads name (a ∷ b ∷ []) (a ∷ b ∷ [])
unfolding clap_on_literals ends_options
two_alone name a b e o f p = just_two a b (rw (e, no_minus a o, no_minus a o, f, no_minus b p, no_minus b p) refl) (rw (e, no_minus a o, no_minus a o, f, no_minus b p, no_minus b p) refl)

behind_two : (name a b dashes : Text) (rest : List Text) → ends_options a ≡ false → is_option a ≡ false → ends_options b ≡ false → is_option b ≡ false
    → ends_options dashes ≡ true → FormReads name (a ∷ b ∷ dashes ∷ rest) (a ∷ b ∷ rest)
unfolding clap_on_literals ends_options
behind_two name a b dashes [] e o f p d = just_two a b (rw (e, no_minus a o, no_minus a o, f, no_minus b p, no_minus b p, d) refl) (rw (e, no_minus a o, no_minus a o, f, no_minus b p, no_minus b p, d) refl)
behind_two name a b dashes (c ∷ rest) e o f p d =
    wrong (a ∷ b ∷ c ∷ rest) (λ h. let g = rw (e, no_minus a o, no_minus a o, f, no_minus b p, no_minus b p, d) at h in cc) (λ other. none_of_three other a b c rest)

three_in_front : (name a b c : Text) (rest others : List Text) → ends_options a ≡ false → is_option a ≡ false → ends_options b ≡ false
    → is_option b ≡ false → ends_options c ≡ false → is_option c ≡ false → FormReads name (a ∷ b ∷ c ∷ rest) (a ∷ b ∷ c ∷ others)
unfolding clap_on_literals ends_options
three_in_front name a b c rest others e o f p g q =
    wrong (a ∷ b ∷ c ∷ others) (λ h. let k = rw (e, no_minus a o, no_minus a o, f, no_minus b p, no_minus b p, g, no_minus c q, no_minus c q) at h in cc) (λ other. none_of_three other a b c others)

-- ---- all of them

abbrev Reads : Text → List Text → Option (List Text) → Type 0
Reads name words None = ⊤
Reads name words (Some operands) = FormReads name words operands

abbrev before : Text → Option (List Text) → Option (List Text)
before word = option_map (λ (others : List Text). word ∷ others)

third_by : (name a b c : Text) (rest : List Text) → ends_options a ≡ false → is_option a ≡ false → ends_options b ≡ false → is_option b ≡ false
    → ends_options c ≡ false → is_option c ≡ false → (others : Option (List Text)) → Reads name (a ∷ b ∷ c ∷ rest) (before a (before b (before c others)))
third_by name a b c rest e o f p g q None = tt
third_by name a b c rest e o f p g q (Some others) = three_in_front name a b c rest others e o f p g q

third_word : (name a b c : Text) (rest : List Text) → ends_options a ≡ false → is_option a ≡ false → ends_options b ≡ false → is_option b ≡ false
    → (ends option : Bool) → ends_options c ≡ ends → is_option c ≡ option
    → Reads name (a ∷ b ∷ c ∷ rest) (before a (before b (if ends then Some rest else if option then None else before c (operands_of rest))))
third_word name a b c rest e o f p true option g q = behind_two name a b c rest e o f p g
third_word name a b c rest e o f p false true g q = tt
third_word name a b c rest e o f p false false g q = third_by name a b c rest e o f p g q (operands_of rest)

third : (name a b : Text) (rest : List Text) → ends_options a ≡ false → is_option a ≡ false → ends_options b ≡ false → is_option b ≡ false
    → Reads name (a ∷ b ∷ rest) (before a (before b (operands_of rest)))
unfolding operands_of
third name a b [] e o f p = two_alone name a b e o f p
third name a b (c ∷ rest) e o f p = third_word name a b c rest e o f p _ _ refl refl

second_word : (name a b : Text) (rest : List Text) → ends_options a ≡ false → is_option a ≡ false
    → (ends option : Bool) → ends_options b ≡ ends → is_option b ≡ option
    → Reads name (a ∷ b ∷ rest) (before a (if ends then Some rest else if option then None else before b (operands_of rest)))
second_word name a b rest e o true option f p = behind_one name a b rest e o f
second_word name a b rest e o false true f p = tt
second_word name a b rest e o false false f p = third name a b rest e o f p

second : (name a : Text) (rest : List Text) → ends_options a ≡ false → is_option a ≡ false → Reads name (a ∷ rest) (before a (operands_of rest))
unfolding operands_of
second name a [] e o = one_alone name a e o
second name a (b ∷ rest) e o = second_word name a b rest e o _ _ refl refl

first_word : (name a : Text) (rest : List Text) (ends option : Bool) → ends_options a ≡ ends → is_option a ≡ option
    → Reads name (a ∷ rest) (if ends then Some rest else if option then None else before a (operands_of rest))
first_word name a rest true option e o = trailing name a rest e
first_word name a rest false true e o = tt
first_word name a rest false false e o = second name a rest e o

form_reads : (name : Text) (words : List Text) → Reads name words (operands_of words)
unfolding operands_of
form_reads name [] = nothing name
form_reads name (a ∷ rest) = first_word name a rest _ _ refl refl

-- ---- the word in front

-- what words are
pub data IsRead (words : List Text) : Type 0 where
  refused : (fault_of words_command words ≡ [] → ⊥) → job_of words ≡ None → IsRead words
  found : (name one other : Text) → fault_of words_command words ≡ [] → subcommand_of words_command words ≡ Some (name, two_rows one other)
      → job_of words ≡ job_named name (one ∷ other ∷ []) → IsRead words

abbrev both : Names
both = (codes "replay", []) ∷ (codes "drill", []) ∷ []

-- behind a form nothing more is read
stopped_fault : (w : Walk) (name : Text) (seen words : List Text) → walk_fault (built words_command).top both (record w { stopped = Some (name, seen) }) words ≡ []
unfolding clap_on_literals
stopped_fault w name seen [] = refl
stopped_fault w name seen (word ∷ words) = stopped_fault w name (seen ++ word ∷ []) words

end_of : (kinds : Kinds) → or_else kinds [] ≡ kinds
end_of [] = refl
end_of (kind ∷ kinds) = refl

module _ (name : Text) (rest : List Text) where
  -- what `clap` says of a form and the words behind it is what it says of those words
  abbrev pub IsEntered : Type 0
  IsEntered = (fault_of words_command (name ∷ rest) ≡ leaf_fault name rest) × (subcommand_of words_command (name ∷ rest) ≡ Some (name, leaf_rows name rest))

replay_entered : (rest : List Text) → IsEntered (codes "replay") rest
unfolding clap_on_literals
replay_entered rest =
    let stopped = walk_stopped [] both (walk_from nothing_held) (codes "replay") [] rest in
    (rw (← stopped, stopped_fault (walk_from nothing_held) (codes "replay") [] rest) (end_of (leaf_fault (codes "replay") rest)), rw (← stopped) refl)

drill_entered : (rest : List Text) → IsEntered (codes "drill") rest
unfolding clap_on_literals
drill_entered rest =
    let stopped = walk_stopped [] both (walk_from nothing_held) (codes "drill") [] rest in
    (rw (← stopped, stopped_fault (walk_from nothing_held) (codes "drill") [] rest) (end_of (leaf_fault (codes "drill") rest)), rw (← stopped) refl)

-- a form, by what its operands are
entered : (name : Text) (rest operands : List Text) → IsEntered name rest → job_of (name ∷ rest) ≡ job_named name operands
    → FormReads name rest operands → IsRead (name ∷ rest)
entered name rest operands is job (wrong o bad none) = refused (λ h. bad (sym is.0 ∙ h)) (job ∙ none name)
entered name rest operands is job (just_two first second right rows) =
    found name first second (is.0 ∙ right) (is.1 ∙ ap (λ (found : List Row). Some (name, found)) rows) job

-- a form whose operands are these
by_operands : (name : Text) (rest : List Text) (operands : Option (List Text)) → IsEntered name rest
    → job_of (name ∷ rest) ≡ option_and_then (job_named name) operands → is_none operands ≡ false → Reads name rest operands → IsRead (name ∷ rest)
by_operands name rest None is job some reads = cc
by_operands name rest (Some operands) is job some reads = entered name rest operands is job reads

none_before : (word : Text) (operands : Option (List Text)) → is_none (before word operands) ≡ is_none operands
none_before word None = refl
none_before word (Some operands) = refl

is_replay : (rest : List Text) → is_none (operands_of (codes "replay" ∷ rest)) ≡ false → IsRead (codes "replay" ∷ rest)
unfolding job_of operands_of ends_options is_option
is_replay rest some =
    by_operands (codes "replay") rest (operands_of rest) (replay_entered rest) refl (sym (none_before (codes "replay") (operands_of rest)) ∙ some)
    (form_reads (codes "replay") rest)

is_drill : (rest : List Text) → is_none (operands_of (codes "drill" ∷ rest)) ≡ false → IsRead (codes "drill" ∷ rest)
unfolding job_of operands_of ends_options is_option
is_drill rest some =
    by_operands (codes "drill") rest (operands_of rest) (drill_entered rest) refl (sym (none_before (codes "drill") (operands_of rest)) ∙ some)
    (form_reads (codes "drill") rest)

-- ---- another word in front

no_job : (word : Text) (operands : Option (List Text)) → bytes_eq word (codes "replay") ≡ false → bytes_eq word (codes "drill") ≡ false
    → option_and_then (job_named word) operands ≡ None
unfolding job_named
no_job word None a b = refl
no_job word (Some operands) a b = rw (a, b) refl

no_form_dashes : (word : Text) (rest : List Text) → bytes_eq (codes "replay") word ≡ false → bytes_eq (codes "drill") word ≡ false
    → ends_options word ≡ true → fault_of words_command (word ∷ rest) ≡ [] → ⊥
unfolding clap_on_literals ends_options
no_form_dashes word [] a b e h = let g = rw (a, b, e) at h in cc
no_form_dashes word (next ∷ rest) a b e h = let g = rw (a, b, e) at h in cc

no_form_plain : (word : Text) (rest : List Text) → bytes_eq (codes "replay") word ≡ false → bytes_eq (codes "drill") word ≡ false
    → ends_options word ≡ false → is_option word ≡ false → fault_of words_command (word ∷ rest) ≡ [] → ⊥
unfolding clap_on_literals ends_options
no_form_plain word rest a b e o h = let g = rw (a, b, e, no_minus word o, no_minus word o) at h in cc

no_form : (word : Text) (rest : List Text) (ends option : Bool) → bytes_eq (codes "replay") word ≡ false → bytes_eq (codes "drill") word ≡ false
    → ends_options word ≡ ends → is_option word ≡ option
    → is_none (if ends then Some rest else if option then None else before word (operands_of rest)) ≡ false → fault_of words_command (word ∷ rest) ≡ [] → ⊥
no_form word rest true option a b e o some h = no_form_dashes word rest a b e h
no_form word rest false true a b e o some h = cc
no_form word rest false false a b e o some h = no_form_plain word rest a b e o h

is_other : (word : Text) (rest : List Text) → bytes_eq (codes "replay") word ≡ false → bytes_eq (codes "drill") word ≡ false
    → is_none (operands_of (word ∷ rest)) ≡ false → IsRead (word ∷ rest)
unfolding job_of operands_of
is_other word rest a b some =
    refused (λ h. no_form word rest _ _ a b refl refl some h)
    (no_job word (operands_of rest) (bytes_eq_both_ways word (codes "replay") ∙ a) (bytes_eq_both_ways word (codes "drill") ∙ b))

by_word : (word : Text) (rest : List Text) (a b : Bool) → bytes_eq (codes "replay") word ≡ a → bytes_eq (codes "drill") word ≡ b
    → is_none (operands_of (word ∷ rest)) ≡ false → IsRead (word ∷ rest)
by_word word rest true b e f some =
    let same = same_text (codes "replay") word (sym e) in
    subst (λ (t : Text). IsRead (t ∷ rest)) same (is_replay rest (subst (λ (t : Text). is_none (operands_of (t ∷ rest)) ≡ false) (sym same) some))
by_word word rest false true e f some =
    let same = same_text (codes "drill") word (sym f) in
    subst (λ (t : Text). IsRead (t ∷ rest)) same (is_drill rest (subst (λ (t : Text). is_none (operands_of (t ∷ rest)) ≡ false) (sym same) some))
by_word word rest false false e f some = is_other word rest e f some

no_words : fault_of words_command [] ≡ [] → ⊥
unfolding clap_on_literals
no_words h = cc

pub is_read : (words : List Text) → is_none (operands_of words) ≡ false → IsRead words
unfolding job_of
is_read [] some = refused no_words refl
is_read (word ∷ rest) some = by_word word rest _ _ refl refl some

-- words with an option have no form
option_first : (word : Text) (operands : Option (List Text)) → is_option word ≡ true → option_and_then (job_named word) operands ≡ None
unfolding job_named is_option
option_first [] operands o = cc
option_first (byte ∷ rest) None o = refl
option_first (byte ∷ rest) (Some operands) o = rw (eqb-true byte 45 o) refl

option_rest : (word : Text) (operands : Option (List Text)) → is_none (before word operands) ≡ true → option_and_then (job_named word) operands ≡ None
option_rest word None none = refl
option_rest word (Some operands) none = cc

option_word : (word : Text) (rest : List Text) (ends option : Bool) → is_option word ≡ option
    → is_none (if ends then Some rest else if option then None else before word (operands_of rest)) ≡ true
    → option_and_then (job_named word) (operands_of rest) ≡ None
option_word word rest true option o none = cc
option_word word rest false true o none = option_first word (operands_of rest) o
option_word word rest false false o none = option_rest word (operands_of rest) none

pub has_no_job : (words : List Text) → is_none (operands_of words) ≡ true → job_of words ≡ None
unfolding job_of operands_of
has_no_job [] none = refl
has_no_job (word ∷ rest) none = option_word word rest _ _ refl none

-- ---- what `clap` gives

is_simple_command : is_simple words_command ≡ true
is_simple_command = refl

is_free_command : is_simple_and_free words_command ≡ true
is_free_command = refl

-- words that `clap` refuses have no form
refused_words : (words : List Text) (error : Error) → is_none (operands_of words) ≡ false → HasKind (fault_of words_command words) error
    → (kind_of error ≡ OutOfMemory → ⊥) → None ≡ job_of words
refused_words words error some kinds other = elim (is_read words some) [
  | refused bad none ↦ sym none
  | found name one two right is job ↦ elim kinds [
    | inl memory ↦ absurd (other memory)
    | inr among ↦ absurd (subst (IsAmong (kind_of error)) right among)
  ]
]

pub failed : (words : List Text) (app : App) (error : Error) → app ≡ words_command → is_none (operands_of words) ≡ false
    → (is_simple_and_free app ≡ true → HasKind (fault_of app words) error) → (kind_of error ≡ OutOfMemory → ⊥) → None ≡ job_of words
failed words app error is some kinds other =
    refused_words words error some (subst (λ (a : App). HasKind (fault_of a words) error) is (kinds (ap is_simple_and_free is ∙ is_free_command))) other

-- the operands that stand in the rows of a form, and the job that they make
pub record IsFound (words : List Text) (name : Text) (rows : List Row) : Type 0 where
  pub one : Text
  pub other : Text
  pub first : first_of (codes "first") rows ≡ Some one
  pub second : first_of (codes "second") rows ≡ Some other
  pub job : job_of words ≡ job_named name (one ∷ other ∷ [])

same_found : (words : List Text) (seen name one other : Text) (rows : List Row) → seen ≡ name → two_rows one other ≡ rows
    → job_of words ≡ job_named seen (one ∷ other ∷ []) → IsFound words name rows
same_found words seen name one other rows same is job = record {
  one = one;
  other = other;
  first = rw (← is) refl;
  second = rw (← is) refl;
  job = rw same at job;
}

same_pair : (a b : Text) (p q : List Row) → ◌≡◌ {A = Option (Text × List Row)} (Some (a, p)) (Some (b, q)) → (a ≡ b) × (p ≡ q)
same_pair a b p q e =
    (ap (λ (o : Option (Text × List Row)). (unwrap_or o (a, p)).0) e, ap (λ (o : Option (Text × List Row)). (unwrap_or o (a, p)).1) e)

taken : (words : List Text) (name : Text) (rows : List Row) → is_none (operands_of words) ≡ false → fault_of words_command words ≡ []
    → subcommand_of words_command words ≡ Some (name, rows) → IsFound words name rows
taken words name rows some right is = elim (is_read words some) [
  | refused bad none ↦ absurd (bad right)
  | found seen one other fault found_rows job ↦
      let same = same_pair seen name (two_rows one other) rows (sym found_rows ∙ is) in
      same_found words seen name one other rows same.0 same.1 job
]

abbrev pair : {B : Type 0} → (B → Text) → (B → List Row) → B → Text × List Row
pair name rows b = (name b, rows b)

joined : {B : Type 0} (name : B → Text) (rows : B → List Row) (met : Option B) (n : Text) (r : List Row) → Some n ≡ option_map name met
    → Some r ≡ option_map (λ (p : Text × List Row). p.1) (option_map (pair name rows) met) → option_map (pair name rows) met ≡ Some (n, r)
joined {B} name rows None n r e f = cc
joined {B} name rows (Some b) n r e f =
    let names : name b ≡ n = ap (λ (o : Option Text). unwrap_or o n) (sym e) in
    let both_rows : rows b ≡ r = ap (λ (o : Option (List Row)). unwrap_or o r) (sym f) in
    rw (names, both_rows) refl

-- the subcommand that was met, by its name and its rows
met_rows : (m : ArgMatches) (n : Text) (r : List Row) → Some n ≡ subcommand_name_of m
    → Some r ≡ option_map (λ (p : Text × List Row). p.1) (subcommand_rows_of m) → subcommand_rows_of m ≡ Some (n, r)
met_rows m n r e f =
    joined (λ b. (out-SubCommand (box_value b)).name.now) (λ b. rows_of (found_of (out-SubCommand (box_value b)).matches)) (out-ArgMatches m).subcommand n r e f

-- what a parse that succeeds finds, by the clauses of `clap`
pub parsed : (words : List Text) (app : App) (m : ArgMatches) (name : Text) (operands : Found) → app ≡ words_command → is_none (operands_of words) ≡ false
    → (is_simple_and_free app ≡ true → fault_of app words ≡ []) → HasMatchesOf app words m → Some name ≡ subcommand_name_of m
    → Some (rows_of operands) ≡ option_map (λ (p : Text × List Row). p.1) (subcommand_rows_of m) → IsFound words name (rows_of operands)
parsed words app m name operands is some faults matches named rows =
    let fault = rw is at (faults (ap is_simple_and_free is ∙ is_free_command)) in
    let entered = rw is at ((matches (ap is_simple is ∙ is_simple_command)).1) in
    taken words name (rows_of operands) some fault (sym entered ∙ met_rows m name (rows_of operands) named rows)

-- what a getter of an operand gives
pub got : (operands : Found) (id one : Text) (value : Option Text) → first_of id (rows_of operands) ≡ Some one → value ≡ first_value operands id
    → value ≡ Some one
got operands id one value there e = e ∙ (first_value-rows operands id ∙ there)

pub same_job : (words : List Text) (name : Text) (rows : List Row) (operands : IsFound words name rows) (first second : Text)
    → Some first ≡ Some operands.one → Some second ≡ Some operands.other → job_named name (first ∷ second ∷ []) ≡ job_of words
same_job words name rows operands first second a b =
    let one : first ≡ operands.one = ap (λ (o : Option Text). unwrap_or o first) a in
    let other : second ≡ operands.other = ap (λ (o : Option Text). unwrap_or o second) b in
    rw (one, other) (sym operands.job)
