-- The first part of a list that is split, and what is left.
use Rattle.std.proofs.Common.{◌≡◌, ℕ, ◌+◌, ◌<◌, ◌≤◌, Bool, cond, List, [], ◌∷◌}
use Rattle.std.proofs.Common.{length, take, drop, None, Some, sym, ◌∙◌, ap, subst, ◌++◌, append_assoc, arith}
use Rattle.std.proofs.lemmas.List.{append-nil}
use Rattle.mur_base.specs.Ascii.{space}
use Rattle.imap_reply.specs.Mailbox.{mailbox_text}
use Rattle.imap_reply.specs.AccessLines.{rights_text, entries_text}
use Rattle.std.proofs.lemmas.Bool.Decides.{nat_tests}
use Rattle.std.proofs.lemmas.List.Splits.{slice_split_none, slice_split_first}
use Rattle.std.proofs.lemmas.List.Sums.{fails_before_first}
use Rattle.std.specs.List.{slice_split, position, position_or_len}
use Rattle.std.specs.Prelude.{nat_lt}

none_below : (m n v : ℕ) → cond (nat_lt m n) (Some v) None ≡ None → n ≤ m
none_below m n v e = grind (arith, nat_tests, e)

some_below : (m n v : ℕ) → cond (nat_lt m n) (Some m) None ≡ Some v → (m < n) × (m ≡ v)
some_below m n v e = (grind (arith, nat_tests, e), grind (arith, nat_tests, e))

pub split_none : (p : ℕ → Bool) (xs : List ℕ) → position p xs ≡ None → slice_split p xs ≡ xs ∷ []
split_none p xs e =
    let all = none_below (position_or_len p xs) (length xs) _ e in
    slice_split_none p xs (λ k d below. fails_before_first p xs k d (omega arith))

pub split_some : (p : ℕ → Bool) (xs : List ℕ) (at : ℕ) → position p xs ≡ Some at → slice_split p xs ≡ take at xs ∷ slice_split p (drop (at + 1) xs)
split_some p xs at e =
    let found = some_below (position_or_len p xs) (length xs) at e in
    let P : ℕ → Type 0 = λ n. slice_split p xs ≡ take n xs ∷ slice_split p (drop (n + 1) xs) in
    subst P found.1 (slice_split_first p xs 0 found.0)

abbrev pub entry_text : List ℕ → List ℕ → List ℕ
entry_text identifier rights = space ∷ (mailbox_text identifier ++ space ∷ rights_text rights)

first_entry : (identifier rights : List ℕ) (more : List (List ℕ))
    → entries_text (identifier ∷ rights ∷ more) ≡ entry_text identifier rights ++ entries_text more
unfolding entries_text
first_entry identifier rights more =
    ap (λ t. space ∷ t) (sym (append_assoc (mailbox_text identifier) (space ∷ rights_text rights) (entries_text more)))

-- an entry is written, and its two fields are behind
pub entry_told : (out text identifier rights : List ℕ) (fields behind more : List (List ℕ)) → fields ≡ identifier ∷ behind → behind ≡ rights ∷ more
    → out ++ entries_text fields ≡ text → (out ++ entry_text identifier rights) ++ entries_text more ≡ text
entry_told out text identifier rights fields behind more is_first is_second so_far =
    append_assoc out (entry_text identifier rights) (entries_text more)
    ∙ ap (λ t. out ++ t) (sym (ap entries_text (is_first ∙ ap (λ t. identifier ∷ t) is_second) ∙ first_entry identifier rights more))
    ∙ so_far

-- the last entry has no TAB behind it
pub last_told : (out text identifier rights : List ℕ) (fields behind : List (List ℕ)) → fields ≡ identifier ∷ behind → behind ≡ rights ∷ []
    → out ++ entries_text fields ≡ text → out ++ entry_text identifier rights ≡ text
unfolding entries_text
last_told out text identifier rights fields behind is_first is_second so_far =
    sym (append-nil (out ++ entry_text identifier rights)) ∙ entry_told out text identifier rights fields behind [] is_first is_second so_far

-- a text without a TAB has no entry
pub none_told : (out text left : List ℕ) (fields : List (List ℕ)) → fields ≡ left ∷ [] → out ++ entries_text fields ≡ text → out ≡ text
unfolding entries_text
none_told out text left fields is_last so_far = sym (append-nil out) ∙ ap (λ t. out ++ entries_text t) (sym is_last) ∙ so_far
