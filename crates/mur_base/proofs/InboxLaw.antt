-- What a user is shown of a name is taken for that name.
use Rattle.std.proofs.Common.{◌≡◌, ℕ, Bool, true, false, nat_eq, nat_le, le-leb, List, [], ◌∷◌, ◌++◌, length, drop, None, Some, refl, sym, ap}
use Rattle.std.proofs.Common.{◌∙◌, arith}
use Rattle.std.proofs.lemmas.Bool.{and_parts, eqb-true}
use Rattle.std.specs.Prelude.{codes}
use Rattle.std.specs.List.{starts_with}
use Rattle.mur_base.specs.Inbox.{own_name, is_level_end, behind, behind_inbox, shown_name, taken_name}

-- five bytes that spell INBOX and the end of a level
is_inbox : (rest : List ℕ) → is_level_end rest ≡ true → behind_inbox (codes "INBOX" ++ rest) ≡ Some rest
unfolding behind_inbox
is_inbox rest h =
    let long : nat_le 5 (length (codes "INBOX" ++ rest)) ≡ true = le-leb _ _ (omega arith) in
    rw (h, long) refl

pub starts_with-parts : (name top : List ℕ) → starts_with nat_eq name top ≡ true → name ≡ top ++ drop (length top) name
starts_with-parts name [] h = refl
starts_with-parts [] (t ∷ top) h = absurd (first_of (cc (h), grind (arith, h)))
starts_with-parts (x ∷ name) (t ∷ top) h =
    let parts = and_parts (nat_eq t x) (starts_with nat_eq name top) h in
    let same : t ≡ x = eqb-true t x parts.0 in
    ap (λ l. x ∷ l) (starts_with-parts name top parts.1) ∙ ap (λ y. y ∷ (top ++ drop (length top) name)) (sym same)

-- what a user is shown where something follows the user's own mailbox, by the two tests
by_tests : (user name : List ℕ) (begins ends : Bool) → starts_with nat_eq name (own_name user) ≡ begins
    → is_level_end (drop (length (own_name user)) name) ≡ ends → behind_inbox name ≡ None → taken_name user (shown_name user name) ≡ name
unfolding shown_name taken_name behind
by_tests user name true true b e none = rw (b, e, is_inbox (drop (length (own_name user)) name) e) (sym (starts_with-parts name (own_name user) b))
by_tests user name true false b e none = rw (b, e, none) refl
by_tests user name false ends b e none = rw (b, none) refl

pub what_is_shown : (user name : List ℕ) → behind_inbox name ≡ None → taken_name user (shown_name user name) ≡ name
what_is_shown user name none = by_tests user name (starts_with nat_eq name (own_name user)) (is_level_end (drop (length (own_name user)) name)) refl refl none
