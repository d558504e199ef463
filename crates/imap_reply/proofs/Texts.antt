-- Which bytes stand in the texts of replies.
use Rattle.std.proofs.Common.{◌≡◌, ℕ, ◌==◌, Bool, true, List, [], ◌∷◌, ◌++◌, refl, arith}
use Rattle.std.specs.Prelude.{All}
use Rattle.std.specs.List.{list_all}
use Rattle.std.specs.Fmt.{decimal}
use Rattle.std.proofs.lemmas.Bool.{and_parts}
use Rattle.std.proofs.lemmas.Bool.Decides.{nat_tests}
use Rattle.std.proofs.lemmas.List.Elements.{All-head, All-tail}
use Rattle.mur_base.specs.Number.{is_digit}
use Rattle.grammar.specs.Quoted.{is_quoted_special}
use Rattle.imap_text.specs.Characters.{is_astring_char, is_atom_char, is_tag_byte}
use Rattle.imap_text.specs.Strings.{escaped, escaped_text, quoted_text, is_atom}
use Rattle.mail_message.specs.Literals.{is_within, IsPlain}
use Rattle.mail_message.proofs.PlainTexts.{all_append, all_weaker, one_of, decimal_digits}
use Rattle.imap_reply.specs.Mailbox.{is_bare, mailbox_text}
use Rattle.imap_reply.specs.Sets.{Run, runs_of, number_run_text, more_runs_text, runs_text, set_text}
use Rattle.imap_reply.specs.SoundTexts.{is_calm, IsCalm}
use Rattle.imap_reply.specs.Spaced.{more_spaced, spaced_text}

pub calm_plain : (text : List ℕ) → IsCalm text → IsPlain text
calm_plain text calm = all_weaker is_calm is_within (λ c h. (and_parts (is_within c) _ h).0) text calm

-- numbers

digit_calm : (c : ℕ) → is_digit c ≡ true → is_calm c ≡ true
unfolding is_digit
digit_calm c h = grind (arith, nat_tests, h)

pub decimal_calm : (n : ℕ) → IsCalm (decimal n)
decimal_calm n = all_weaker is_digit is_calm digit_calm (decimal n) (decimal_digits n)

-- sets of numbers

run_calm : (run : Run) → IsCalm (number_run_text run)
unfolding number_run_text
run_calm run =
    one_of is_calm (run.first == run.last) (decimal run.first) (decimal run.first ++ 58 ∷ decimal run.last) (decimal_calm run.first)
    (all_append is_calm (decimal run.first) (58 ∷ decimal run.last) (decimal_calm run.first) (decimal_calm run.last))

more_runs_calm : (runs : List Run) → IsCalm (more_runs_text runs)
unfolding more_runs_text
more_runs_calm [] = refl
more_runs_calm (run ∷ runs) = all_append is_calm (number_run_text run) (more_runs_text runs) (run_calm run) (more_runs_calm runs)

runs_calm : (runs : List Run) → IsCalm (runs_text runs)
unfolding runs_text
runs_calm [] = refl
runs_calm (run ∷ runs) = all_append is_calm (number_run_text run) (more_runs_text runs) (run_calm run) (more_runs_calm runs)

pub set_calm : (numbers : List ℕ) → IsCalm (set_text numbers)
unfolding set_text
set_calm numbers = runs_calm (runs_of numbers)

-- texts with spaces between them

more_spaced_plain : (texts : List (List ℕ)) → All IsPlain texts → IsPlain (more_spaced texts)
unfolding more_spaced
more_spaced_plain [] all = refl
more_spaced_plain (text ∷ texts) all =
    all_append is_within text (more_spaced texts) (All-head IsPlain text texts all) (more_spaced_plain texts (All-tail IsPlain text texts all))

pub spaced_plain : (texts : List (List ℕ)) → All IsPlain texts → IsPlain (spaced_text texts)
unfolding spaced_text
spaced_plain [] all = refl
spaced_plain (text ∷ texts) all =
    all_append is_within text (more_spaced texts) (All-head IsPlain text texts all) (more_spaced_plain texts (All-tail IsPlain text texts all))

-- names

atom_char_calm : (c : ℕ) → is_atom_char c ≡ true → is_calm c ≡ true
unfolding is_atom_char is_astring_char
atom_char_calm c h = grind (arith, nat_tests, h)

tag_byte_calm : (c : ℕ) → is_tag_byte c ≡ true → is_calm c ≡ true
unfolding is_tag_byte
tag_byte_calm c h = grind (arith, nat_tests, h)

pub tag_calm : (text : List ℕ) → list_all is_tag_byte text ≡ true → IsCalm text
tag_calm text all = all_weaker is_tag_byte is_calm tag_byte_calm text all

pub atom_calm : (text : List ℕ) → is_atom text ≡ true → IsCalm text
unfolding is_atom
atom_calm text h = all_weaker is_atom_char is_calm atom_char_calm text (and_parts (list_all is_atom_char text) _ h).0

-- a name holds no other bytes than its own, quotes and backslashes

escaped_all : (test : ℕ → Bool) → test 92 ≡ true → (c : ℕ) → test c ≡ true → list_all test (escaped c) ≡ true
unfolding escaped
escaped_all test slash c h = one_of test (is_quoted_special c) (92 ∷ c ∷ []) (c ∷ []) (rw (slash, h) refl) (rw h refl)

escaped_text_all : (test : ℕ → Bool) → test 92 ≡ true → (text : List ℕ) → list_all test text ≡ true → list_all test (escaped_text text) ≡ true
unfolding escaped_text
escaped_text_all test slash [] all = refl
escaped_text_all test slash (c ∷ text) all =
    let both = and_parts (test c) (list_all test text) all in
    all_append test (escaped c) (escaped_text text) (escaped_all test slash c both.0) (escaped_text_all test slash text both.1)

quoted_all : (test : ℕ → Bool) → test 92 ≡ true → test 34 ≡ true → (text : List ℕ) → list_all test text ≡ true → list_all test (quoted_text text) ≡ true
unfolding quoted_text
quoted_all test slash quote text all =
    rw quote (all_append test (escaped_text text) (34 ∷ []) (escaped_text_all test slash text all) (rw quote refl))

mailbox_all : (test : ℕ → Bool) → test 92 ≡ true → test 34 ≡ true → (name : List ℕ) → list_all test name ≡ true → list_all test (mailbox_text name) ≡ true
unfolding mailbox_text
mailbox_all test slash quote name all = one_of test (is_bare name) name (quoted_text name) all (quoted_all test slash quote name all)

pub mailbox_plain : (name : List ℕ) → IsPlain name → IsPlain (mailbox_text name)
mailbox_plain name plain = mailbox_all is_within refl refl name plain

pub mailbox_calm : (name : List ℕ) → IsCalm name → IsCalm (mailbox_text name)
mailbox_calm name calm = mailbox_all is_calm refl refl name calm
