-- Runs of numbers, with one number more behind the first run.
use Rattle.std.proofs.Common.{◌≡◌, ◌≢◌, ℕ, suc, ◌+◌, ◌<◌, List, [], ◌∷◌}
use Rattle.std.proofs.Common.{◌++◌, length, get_or, drop, refl, sym, ◌∙◌, ap, subst, append_assoc, add-one, drop-cons, ◌≤◌, arith}
use Rattle.std.proofs.lemmas.Grind.{common_steps}
use Rattle.std.proofs.lemmas.List.{append-nil}
use Rattle.std.proofs.lemmas.Bool.Decides.{nat_tests}
use Rattle.mur_base.specs.Ascii.{comma}
use Rattle.imap_reply.specs.Sets.{Run, before_runs, runs_of, number_run_text, more_runs_text, runs_text}

abbrev pub run : ℕ → ℕ → Run
run first last = record { first = first; last = last }

-- a run that goes on at once with a number is one with it
pub run_goes_on : (first last next : ℕ) (runs : List Run) → suc last ≡ next
    → before_runs (run first last) (before_runs (run next next) runs) ≡ before_runs (run first next) runs
unfolding before_runs
run_goes_on first last next [] e = grind (arith, nat_tests, e)
run_goes_on first last next (other ∷ runs) e = grind (arith, nat_tests, e)

-- else it is told before the next
pub run_ends : (first last next : ℕ) (runs : List Run) → suc last ≢ next
    → runs_text (before_runs (run first last) (before_runs (run next next) runs))
    ≡ number_run_text (run first last) ++ comma ∷ runs_text (before_runs (run next next) runs)
unfolding before_runs more_runs_text runs_text
run_ends first last next [] e = grind (arith, nat_tests, e)
run_ends first last next (other ∷ runs) e = grind (arith, nat_tests, e)

-- the numbers from a place on begin with the one that stands there
pub runs_from : (numbers : List ℕ) (at : ℕ) → at < length numbers
    → runs_of (drop at numbers) ≡ before_runs (run (get_or numbers at 0) (get_or numbers at 0)) (runs_of (drop (at + 1) numbers))
unfolding runs_of
runs_from numbers at below = rw (add-one, drop-cons numbers at 0) refl

-- What is written, the run that has begun and the numbers from a place on make a text; so they do with that number too, whether it
-- ends the run or goes on with it.

abbrev pub makes : List ℕ → List ℕ → ℕ → ℕ → List ℕ → ℕ → Type 0
makes out text first last numbers at = out ++ runs_text (before_runs (run first last) (runs_of (drop at numbers))) ≡ text

pub next_ends : (out text : List ℕ) (first last : ℕ) (numbers : List ℕ) (at : ℕ) → at < length numbers → makes out text first last numbers at
    → suc last ≢ get_or numbers at 0
    → makes (out ++ number_run_text (run first last) ++ comma ∷ []) text (get_or numbers at 0) (get_or numbers at 0) numbers (at + 1)
next_ends out text first last numbers at below so_far apart =
    let next = get_or numbers at 0 in
    let rest = runs_of (drop (at + 1) numbers) in
    append_assoc (out ++ number_run_text (run first last)) (comma ∷ []) (runs_text (before_runs (run next next) rest))
    ∙ append_assoc out (number_run_text (run first last)) (comma ∷ runs_text (before_runs (run next next) rest))
    ∙ ap (λ t. out ++ t) (sym (run_ends first last next rest apart))
    ∙ ap (λ runs. out ++ runs_text (before_runs (run first last) runs)) (sym (runs_from numbers at below))
    ∙ so_far

pub next_goes_on : (out text : List ℕ) (first last : ℕ) (numbers : List ℕ) (at : ℕ) → at < length numbers → makes out text first last numbers at
    → suc last ≡ get_or numbers at 0
    → makes out text first (get_or numbers at 0) numbers (at + 1)
next_goes_on out text first last numbers at below so_far together =
    let next = get_or numbers at 0 in
    let rest = runs_of (drop (at + 1) numbers) in
    ap (λ runs. out ++ runs_text runs) (sym (run_goes_on first last next rest together))
    ∙ ap (λ runs. out ++ runs_text (before_runs (run first last) runs)) (sym (runs_from numbers at below))
    ∙ so_far

-- behind the last number the run that has begun is the last
pub numbers_end : (out text : List ℕ) (first last : ℕ) (numbers : List ℕ) (at : ℕ) → length numbers ≤ at → makes out text first last numbers at
    → out ++ number_run_text (run first last) ≡ text
unfolding before_runs runs_of runs_text more_runs_text
numbers_end out text first last numbers at past so_far =
    let none : drop at numbers ≡ [] = grind (arith, common_steps) in
    let P : List ℕ → Type 0 = λ left. out ++ runs_text (before_runs (run first last) (runs_of left)) ≡ text in
    ap (λ t. out ++ t) (sym (append-nil (number_run_text (run first last)))) ∙ subst P none so_far
