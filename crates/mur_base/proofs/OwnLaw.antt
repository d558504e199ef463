-- A name is a user's own where it begins with `user.` and goes on with the user's name.
use Rattle.std.proofs.Common.{◌≡◌, ℕ, Bool, true, false, ◌&&◌, nat_eq, cond, List, [], ◌∷◌, ◌++◌, length, drop, Option, None, Some, refl, sym, ap, ◌∙◌}
use Rattle.std.specs.Prelude.{codes, is_some}
use Rattle.std.specs.Borrow.{Bor}
use Rattle.std.specs.Option.{option_map}
use Rattle.std.specs.List.{starts_with}
use Rattle.std.specs.Str.{bytes_eq}
use Rattle.mur_base.specs.Inbox.{own_name, is_level_end, behind, owns, is_own}

and_groups : (a b c : Bool) → (a && (b && c)) ≡ ((a && b) && c)
and_groups true b c = refl
and_groups false b c = refl

drop_both : (front back text : List ℕ) → drop (length (front ++ back)) text ≡ drop (length back) (drop (length front) text)
drop_both [] back text = refl
drop_both (f ∷ front) [] [] = refl
drop_both (f ∷ front) (b ∷ back) [] = refl
drop_both (f ∷ front) back (t ∷ text) = drop_both front back text

starts_with_both : (front back text : List ℕ)
    → starts_with nat_eq text (front ++ back) ≡ (starts_with nat_eq text front && starts_with nat_eq (drop (length front) text) back)
starts_with_both [] back text = refl
starts_with_both (f ∷ front) back [] = refl
starts_with_both (f ∷ front) back (t ∷ text) = ap (λ rest. nat_eq f t && rest) (starts_with_both front back text) ∙ and_groups (nat_eq f t) _ _

same_both : (front back text : List ℕ) → bytes_eq (front ++ back) text ≡ (starts_with nat_eq text front && bytes_eq back (drop (length front) text))
same_both [] back text = refl
same_both (f ∷ front) back [] = refl
same_both (f ∷ front) back (t ∷ text) = ap (λ rest. nat_eq f t && rest) (same_both front back text) ∙ and_groups (nat_eq f t) _ _

is_some_if : (test : Bool) (rest : List ℕ) → is_some (cond test (Some rest) None) ≡ test
is_some_if true rest = refl
is_some_if false rest = refl

is_behind : (top name : List ℕ) → is_some (behind top name) ≡ (starts_with nat_eq name top && is_level_end (drop (length top) name))
unfolding behind
is_behind top name = is_some_if _ _

owns_parts : (user name : List ℕ) → owns user name ≡ (starts_with nat_eq name (codes "user.") && is_some (behind user (drop 5 name)))
unfolding owns own_name
owns_parts user name =
    is_behind (codes "user." ++ user) name
    ∙ ap (λ begins. begins && is_level_end (drop (length (codes "user." ++ user)) name)) (starts_with_both (codes "user.") user name)
    ∙ ap (λ rest. (starts_with nat_eq name (codes "user.") && starts_with nat_eq (drop 5 name) user) && is_level_end rest) (drop_both (codes "user.") user name)
    ∙ sym (and_groups (starts_with nat_eq name (codes "user.")) (starts_with nat_eq (drop 5 name) user) (is_level_end (drop (length user) (drop 5 name))))
    ∙ ap (λ found. starts_with nat_eq name (codes "user.") && found) (sym (is_behind user (drop 5 name)))

is_own_parts : (user name : List ℕ) → is_own user name ≡ (starts_with nat_eq name (codes "user.") && bytes_eq user (drop 5 name))
unfolding is_own own_name
is_own_parts user name = same_both (codes "user.") user name

-- where the name begins with `user.`
pub owns_behind : (user name : List ℕ) → starts_with nat_eq name (codes "user.") ≡ true → owns user name ≡ is_some (behind user (drop 5 name))
owns_behind user name begins = rw (owns_parts user name, begins) refl

pub is_own_behind : (user name : List ℕ) → starts_with nat_eq name (codes "user.") ≡ true → is_own user name ≡ bytes_eq user (drop 5 name)
is_own_behind user name begins = rw (is_own_parts user name, begins) refl

-- and where it begins otherwise
pub owns_none : (user name : List ℕ) → starts_with nat_eq name (codes "user.") ≡ false → owns user name ≡ false
owns_none user name begins = rw (owns_parts user name, begins) refl

pub is_own_none : (user name : List ℕ) → starts_with nat_eq name (codes "user.") ≡ false → is_own user name ≡ false
is_own_none user name begins = rw (is_own_parts user name, begins) refl

pub is_some_now : (found : Option (Bor (List ℕ))) → is_some found ≡ is_some (option_map (λ (rest : Bor (List ℕ)). rest.now) found)
is_some_now None = refl
is_some_now (Some rest) = refl
