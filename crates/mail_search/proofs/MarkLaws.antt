-- The marks that a key gives many messages, from those of the keys in it.
use Rattle.std.proofs.Common.{◌≡◌, ◌∙◌, ℕ, true, not, ◌&&◌, ◌||◌, List, [], ◌∷◌, length, map, take, get_or, ◌<◌, ◌+◌, refl, sym, ap, arith}
use Rattle.std.specs.List.{zip}
use Rattle.std.proofs.lemmas.List.Folds.{list_all_more}
use Rattle.mail_message.specs.declared.set.SetPart.{SetPart}
use Rattle.mail_message.specs.declared.key.Key.{Key}
use Rattle.mail_message.specs.declared.key.Key.TheVariants.{Uid, Numbers, Not, Or, Group, rolls-Uid, rolls-Numbers, rolls-Not, rolls-Or}
use Rattle.mail_message.specs.declared.key.Key.TheOpen.{Key-F}
use Rattle.mail_message.specs.declared.key.Key.TheFolds.{fold-roll-Key}
use Rattle.mail_message.specs.declared.message.Summary.{Summary}
use Rattle.mail_message.specs.Sets.{set_holds}
use Rattle.mail_search.specs.Matching.{Test, matches_by, key_matches, all_match}
use Rattle.mail_search.specs.Search.{Numbered, marks, both, either}
use Rattle.mail_search.proofs.GroupLaw.{group-matches}

-- ---- lists side by side

pub first-zip : {X Y : Type 0} (f : X → Y) (xs : List X) (ns : List ℕ) → length ns ≡ length xs → map (λ row. f row.0) (zip xs ns) ≡ map f xs
first-zip f [] ns same = refl
first-zip f (x ∷ xs) [] same = absurd (omega (arith, same))
first-zip f (x ∷ xs) (n ∷ ns) same = ap (λ ys. f x ∷ ys) (first-zip f xs ns (omega (arith, same)))

second-zip : {X Y : Type 0} (f : ℕ → Y) (xs : List X) (ns : List ℕ) → length ns ≡ length xs → map (λ row. f row.1) (zip xs ns) ≡ map f ns
second-zip f [] [] same = refl
second-zip f [] (n ∷ ns) same = absurd (omega (arith, same))
second-zip f (x ∷ xs) [] same = absurd (omega (arith, same))
second-zip f (x ∷ xs) (n ∷ ns) same = ap (λ ys. f n ∷ ys) (second-zip f xs ns (omega (arith, same)))

-- ---- marks by what stands in a key

uid-matches : (set : List SetPart) (message : Summary) (number : ℕ) → key_matches (Uid set) message number ≡ set_holds set message.uid
uid-matches set message number =
    ap (λ (test : Test). test message number) (ap key_matches (sym (rolls-Uid set)) ∙ fold-roll-Key Test matches_by (Key-F.Uid set))

number-matches : (set : List SetPart) (message : Summary) (number : ℕ) → key_matches (Numbers set) message number ≡ set_holds set number
number-matches set message number =
    ap (λ (test : Test). test message number) (ap key_matches (sym (rolls-Numbers set)) ∙ fold-roll-Key Test matches_by (Key-F.Numbers set))

not-matches : (key : Key) (message : Summary) (number : ℕ) → key_matches (Not key) message number ≡ not (key_matches key message number)
not-matches key message number =
    ap (λ (test : Test). test message number) (ap key_matches (sym (rolls-Not key)) ∙ fold-roll-Key Test matches_by (Key-F.Not key))

or-matches : (one other : Key) (message : Summary) (number : ℕ)
    → key_matches (Or one other) message number ≡ (key_matches one message number || key_matches other message number)
or-matches one other message number =
    ap (λ (test : Test). test message number) (ap key_matches (sym (rolls-Or one other)) ∙ fold-roll-Key Test matches_by (Key-F.Or one other))

same-marks : (one other : Test) → ((message : Summary) (number : ℕ) → one message number ≡ other message number)
    → (rows : Numbered) → marks one rows ≡ marks other rows
same-marks one other same [] = refl
same-marks one other same (row ∷ rows) = let first = same row.0 row.1 in let rest = same-marks one other same rows in cc

uids_held : (set : List SetPart) (messages : List Summary)
    → map (set_holds set) (map (λ (message : Summary). message.uid) messages) ≡ map (λ (message : Summary). set_holds set message.uid) messages
uids_held set [] = refl
uids_held set (message ∷ messages) = ap (λ rest. set_holds set message.uid ∷ rest) (uids_held set messages)

pub uid-marks : (set : List SetPart) (messages : List Summary) (numbers : List ℕ) → length numbers ≡ length messages
    → map (set_holds set) (map (λ (message : Summary). message.uid) messages) ≡ marks (key_matches (Uid set)) (zip messages numbers)
uid-marks set messages numbers same =
    uids_held set messages ∙ sym (first-zip (λ (message : Summary). set_holds set message.uid) messages numbers same)
    ∙ sym (same-marks _ _ (uid-matches set) (zip messages numbers))

pub number-marks : (set : List SetPart) (messages : List Summary) (numbers : List ℕ) → length numbers ≡ length messages
    → map (set_holds set) numbers ≡ marks (key_matches (Numbers set)) (zip messages numbers)
number-marks set messages numbers same =
    sym (second-zip (set_holds set) messages numbers same) ∙ sym (same-marks _ _ (number-matches set) (zip messages numbers))

not_marked : (key : Key) (rows : Numbered) → map not (marks (key_matches key) rows) ≡ marks (λ message number. not (key_matches key message number)) rows
not_marked key [] = refl
not_marked key (row ∷ rows) = ap (λ rest. not (key_matches key row.0 row.1) ∷ rest) (not_marked key rows)

pub not-marks : (key : Key) (rows : Numbered) → map not (marks (key_matches key) rows) ≡ marks (key_matches (Not key)) rows
not-marks key rows = not_marked key rows ∙ sym (same-marks _ _ (not-matches key) rows)

either_marked : (one other : Test) (rows : Numbered)
    → either (marks one rows) (marks other rows) ≡ marks (λ message number. one message number || other message number) rows
either_marked one other [] = refl
either_marked one other (row ∷ rows) = ap (λ rest. (one row.0 row.1 || other row.0 row.1) ∷ rest) (either_marked one other rows)

pub or-marks : (one other : Key) (rows : Numbered)
    → either (marks (key_matches one) rows) (marks (key_matches other) rows) ≡ marks (key_matches (Or one other)) rows
or-marks one other rows = either_marked (key_matches one) (key_matches other) rows ∙ sym (same-marks _ _ (or-matches one other) rows)

pub group-marks : (keys : List Key) (rows : Numbered) → marks (all_match keys) rows ≡ marks (key_matches (Group keys)) rows
group-marks keys rows = sym (same-marks _ _ (group-matches keys) rows)

both_marked : (one other : Test) (rows : Numbered)
    → both (marks one rows) (marks other rows) ≡ marks (λ message number. one message number && other message number) rows
both_marked one other [] = refl
both_marked one other (row ∷ rows) = ap (λ rest. (one row.0 row.1 && other row.0 row.1) ∷ rest) (both_marked one other rows)

pub no-marks : (messages : List Summary) (numbers : List ℕ) → length numbers ≡ length messages
    → map (λ _. true) messages ≡ marks (all_match []) (zip messages numbers)
no-marks messages numbers same = sym (first-zip (λ _. true) messages numbers same)

pub next-marks : (keys : List Key) (at : ℕ) (key : Key) (rows : Numbered) → at < length keys → key ≡ get_or keys at key
    → both (marks (all_match (take at keys)) rows) (marks (key_matches key) rows) ≡ marks (all_match (take (at + 1) keys)) rows
next-marks keys at key rows within is =
    both_marked (all_match (take at keys)) (key_matches key) rows
    ∙ sym (same-marks _ _ (λ message number. list_all_more (λ key. key_matches key message number) keys at key within
    ∙ ap (λ next. all_match (take at keys) message number && key_matches next message number) (sym is)) rows)
