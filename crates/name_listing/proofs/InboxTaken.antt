-- INBOX in a pattern is what a user is shown of the name that INBOX means.
use Rattle.std.proofs.Common.{◌≡◌, ℕ, Bool, true, false, ◌&&◌, cond, nat_le, List, ◌++◌, length, take, drop, Some, None}
use Rattle.std.proofs.Common.{refl, sym, ap, ◌∙◌}
use Rattle.std.specs.Prelude.{codes}
use Rattle.std.specs.Str.{str_eq_ignore_ascii_case}
use Rattle.std.proofs.lemmas.Bool.{and_parts}
use Rattle.std.proofs.lemmas.List.{drop_at}
use Rattle.mur_base.specs.Inbox.{own_name, is_level_end, behind, behind_inbox, shown_name, taken_name}
use Rattle.name_listing.specs.Listing.{pattern_of}
use Rattle.name_listing.proofs.Above.{starts_with-front}

some_by : (test : Bool) (end rest : List ℕ) → cond test (Some end) None ≡ Some rest → (test ≡ true) × (end ≡ rest)
some_by true end rest h = (refl, cc (h))
some_by false end rest h = cc

-- what follows INBOX begins where a level ends
level_ends : (text rest : List ℕ) → behind_inbox text ≡ Some rest → is_level_end rest ≡ true
unfolding behind_inbox
level_ends text rest h =
    let found = some_by (nat_le 5 (length text) && str_eq_ignore_ascii_case (take 5 text) (codes "inbox") && is_level_end (drop 5 text)) (drop 5 text) rest h in
    let parts = and_parts (nat_le 5 (length text) && str_eq_ignore_ascii_case (take 5 text) (codes "inbox")) (is_level_end (drop 5 text)) found.0 in
    sym (ap is_level_end found.1) ∙ parts.1

own_behind : (top rest : List ℕ) → is_level_end rest ≡ true → behind top (top ++ rest) ≡ Some rest
unfolding behind
own_behind top rest ends = rw (starts_with-front top rest, drop_at top rest (length top) refl, ends) refl

pub taken_so : (user reference mailbox rest : List ℕ) → behind_inbox (reference ++ mailbox) ≡ Some rest
    → pattern_of reference mailbox ≡ shown_name user (taken_name user (reference ++ mailbox))
unfolding pattern_of shown_name taken_name
taken_so user reference mailbox rest h =
    rw (h, own_behind (own_name user) rest (level_ends (reference ++ mailbox) rest h)) refl

pub as_it_is : (reference mailbox : List ℕ) → behind_inbox (reference ++ mailbox) ≡ None → pattern_of reference mailbox ≡ reference ++ mailbox
unfolding pattern_of
as_it_is reference mailbox h = rw h refl
