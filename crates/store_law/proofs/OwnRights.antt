-- What the commands' own test of rights lets pass is right by the bytes of the name, or by the list of users.
use Rattle.std.proofs.Common.{◌≡◌, ◌⊎◌, ℕ, ◌&&◌, ◌||◌, Bool, true, false, not, cond, nat_eq, List, [], ◌∷◌, ◌++◌, length, drop, None, Some, codes}
use Rattle.std.proofs.Common.{inl, inr, refl, sym, ◌∙◌, ap, arith, append_assoc}
use Rattle.std.specs.Prelude.{is_some}
use Rattle.std.specs.List.{find, list_any, starts_with}
use Rattle.std.specs.Str.{bytes_eq}
use Rattle.std.proofs.Math.Logic.{⊎_elim}
use Rattle.std.proofs.lemmas.Bool.{and_parts}
use Rattle.std.proofs.lemmas.Bool.Decides.{nat_tests}
use Rattle.std.proofs.lemmas.List.{append-nil}
use Rattle.std.proofs.lemmas.List.Folds.{Any-from_list_any}
use Rattle.std.proofs.lemmas.Slice.Eq.{bytes_eq-Decides}
use Rattle.mur_base.proofs.InboxLaw.{starts_with-parts}
use Rattle.mur_base.specs.Ascii.{dot}
use Rattle.mur_base.specs.Inbox.{behind, is_level_end, is_own, own_name, owns}
use Rattle.mur_base.specs.Users.{is_user_named}
use Rattle.mur_base.specs.declared.user.User.{User}
use Rattle.mur_model.specs.Rights.{has_rights, is_admin, is_admin_user, may_create, user_named}
use Rattle.store_law.specs.OthersUnseen.{HasRightsOn, IsAdministrator, IsBelowOwn, IsOwnName, MayMakeAt}

or_either : (one other : Bool) → (one || other) ≡ true → (one ≡ true) ⊎ (other ≡ true)
or_either true other is = inl refl
or_either false other is = inr is

-- ---- an administrator

is_such : List ℕ → User → Bool
is_such name user = is_user_named name user && user.admin

found_is_such : (name : List ℕ) (user : User) (users : List User) (named : Bool) → is_user_named name user ≡ named
    → (is_admin_user (find (is_user_named name) users) ≡ true → list_any (is_such name) users ≡ true)
    → is_admin_user (cond named (Some user) (find (is_user_named name) users)) ≡ true → (is_such name user || list_any (is_such name) users) ≡ true
unfolding is_such is_admin_user
found_is_such name user users true named on is = rw (named, is) refl
found_is_such name user users false named on is = rw named (on is)

one_is_such : (name : List ℕ) (users : List User) → is_admin_user (find (is_user_named name) users) ≡ true → list_any (is_such name) users ≡ true
unfolding is_admin_user
one_is_such name [] is = cc
one_is_such name (user ∷ users) is = found_is_such name user users (is_user_named name user) refl (one_is_such name users) is

such_is : (name : List ℕ) (user : User) → is_such name user ≡ true → (user.name ≡ name) × (user.admin ≡ true)
unfolding is_such is_user_named
such_is name user is =
    let parts = and_parts (bytes_eq user.name name) user.admin is in
    ((bytes_eq-Decides user.name name).0 parts.0, parts.1)

administrator : (users : List User) (name : List ℕ) → is_admin users name ≡ true → IsAdministrator users name
unfolding user_named
administrator users name is =
    let found = Any-from_list_any (is_such name) users (one_is_such name users is) in
    (found.0, found.1, found.2, found.3, such_is name found.1 found.4)

-- ---- the user's own names

passed : (test : Bool) (rest : List ℕ) → is_some (cond test (Some rest) None) ≡ true → test ≡ true
passed true rest is = refl
passed false rest is = cc

own_by : (user name rest : List ℕ) → name ≡ own_name user ++ rest → is_level_end rest ≡ true → IsOwnName user name
unfolding own_name is_level_end
own_by user name [] parts ends = inl (parts ∙ append-nil (codes "user." ++ user))
own_by user name (byte ∷ below) parts ends =
    let is_dot : byte ≡ dot = grind (arith, nat_tests, ends) in
    inr (below, parts ∙ ap (λ b. codes "user." ++ user ++ (b ∷ below)) is_dot ∙ sym (append_assoc (codes "user." ++ user) (codes ".") below))

own : (user name : List ℕ) → owns user name ≡ true → IsOwnName user name
unfolding owns behind
own user name is =
    let top = own_name user in
    let parts = and_parts (starts_with nat_eq name top) (is_level_end (drop (length top) name)) (passed _ _ is) in
    own_by user name (drop (length top) name) (starts_with-parts name top parts.0) parts.1

-- ---- both

pub has_right : (users : List User) (user name : List ℕ) → has_rights users user name ≡ true → HasRightsOn users user name
unfolding has_rights
has_right users user name is =
    ⊎_elim (λ (admin : is_admin users user ≡ true). inl (administrator users user admin))
    (λ (owned : owns user name ≡ true). inr (own user name owned)) (or_either (is_admin users user) (owns user name) is)

-- who may make a mailbox there
not_its_own : (user name : List ℕ) → not (is_own user name) ≡ true → IsOwnName user name → IsBelowOwn user name
unfolding is_own own_name
not_its_own user name other (inl same) = let is = (bytes_eq-Decides (codes "user." ++ user) name).1 (sym same) in absurd (differs (bytes_eq (codes "user." ++ user) name) is other)
  where
    differs : (test : Bool) → test ≡ true → not test ≡ true → ⊥
    differs true is isnt = cc
    differs false is isnt = cc
not_its_own user name other (inr below) = below

pub may_make : (users : List User) (user name : List ℕ) → may_create users user name ≡ true → MayMakeAt users user name
unfolding may_create
may_make users user name is =
    ⊎_elim (λ (admin : is_admin users user ≡ true). inl (administrator users user admin))
    (λ (owned : (owns user name && not (is_own user name)) ≡ true). let parts = and_parts (owns user name) (not (is_own user name)) owned in
    inr (not_its_own user name parts.1 (own user name parts.0)))
    (or_either (is_admin users user) (owns user name && not (is_own user name)) is)

-- who has rights on its name
pub makes_own : (users : List User) (user name : List ℕ) → MayMakeAt users user name → HasRightsOn users user name
makes_own users user name (inl admin) = inl admin
makes_own users user name (inr below) = inr (inr below)
