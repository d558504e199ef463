-- Users that break no rule have names of their own and passwords.
use Rattle.std.proofs.Common.{◌≡◌, ◌≢◌, ℕ, Bool, true, false, ◌||◌, ◌&&◌, not, nat_lt, nat_le, List, []}
use Rattle.std.proofs.Common.{◌∷◌, length, None, Some, refl, sym, arith}
use Rattle.std.specs.List.{All, AllPairs, list_any, list_all}
use Rattle.std.specs.Str.{bytes_eq}
use Rattle.std.proofs.lemmas.Bool.{and_parts, or_parts}
use Rattle.std.proofs.lemmas.Bool.Decides.{nat_tests}
use Rattle.std.proofs.lemmas.List.Elements.{All-nil, All-cons}
use Rattle.std.proofs.lemmas.List.Kept.{AllPairs-cons}
use Rattle.std.proofs.lemmas.List.Sums.{AllPass-from_list_all}
use Rattle.std.proofs.lemmas.Slice.Eq.{bytes_eq-Decides}
use Rattle.mur_base.specs.Ascii.{nul}
use Rattle.mur_base.specs.declared.user.User.{User}
use Rattle.mur_base.specs.declared.user.UsersFault.TheVariants.{NameTwice, BadPassword}
use Rattle.mur_base.specs.declared.user.TheConstants.{PASSWORD_LIMIT}
use Rattle.mur_base.specs.Users.{is_user_named, user_names_differ, is_no_nul, is_password, has_password, users_fault, IsPassword, AreUsers}

pub not_true : (a : Bool) → not a ≡ true → a ≡ false
not_true true h = cc
not_true false h = refl

pub other_name : (one other : List ℕ) → bytes_eq other one ≡ false → one ≢ other
other_name one other differ = λ same. let yes = (bytes_eq-Decides other one).1 (sym same) in cc

none_named : (name : List ℕ) (users : List User) → list_any (is_user_named name) users ≡ false → All (λ (user : User). name ≢ user.name) users
unfolding is_user_named
none_named name [] h = All-nil (λ (user : User). name ≢ user.name)
none_named name (user ∷ users) h =
    let parts = or_parts (is_user_named name user) (list_any (is_user_named name) users) h in
    All-cons (λ (user : User). name ≢ user.name) user users (other_name name user.name parts.0) (none_named name users parts.1)

names_apart : (users : List User) → user_names_differ users ≡ true → AllPairs (λ (one other : User). one.name ≢ other.name) users
unfolding user_names_differ
names_apart [] h = λ i j d less within. absurd (omega arith)
names_apart (user ∷ users) h =
    let parts = and_parts (not (list_any (is_user_named user.name) users)) (user_names_differ users) h in
    AllPairs-cons (λ (one other : User). one.name ≢ other.name) user users
    (none_named user.name users (not_true (list_any (is_user_named user.name) users) parts.0)) (names_apart users parts.1)

not_nul : (byte : ℕ) → is_no_nul byte ≡ true → byte ≢ nul
unfolding is_no_nul
not_nul byte h = λ same. grind (arith, nat_tests)

without_nul : (text : List ℕ) → list_all is_no_nul text ≡ true → All (λ byte. byte ≢ nul) text
without_nul text h = λ k d within. not_nul _ (AllPass-from_list_all is_no_nul text h k d within)

kept_password : (text : List ℕ) → is_password text ≡ true → IsPassword text
unfolding is_password
kept_password text h =
    let whole = and_parts (nat_lt 0 (length text) && nat_le (length text) PASSWORD_LIMIT) (list_all is_no_nul text) h in
    let within = and_parts (nat_lt 0 (length text)) (nat_le (length text) PASSWORD_LIMIT) whole.0 in
    (grind (arith, nat_tests, within.0), grind (arith, nat_tests, within.1), without_nul text whole.1)

kept_passwords : (users : List User) → list_all has_password users ≡ true → All (λ (user : User). IsPassword user.password) users
unfolding has_password
kept_passwords users h = λ k d within. kept_password _ (AllPass-from_list_all has_password users h k d within)

users_by : (users : List User) → (names passwords : Bool) → user_names_differ users ≡ names → list_all has_password users ≡ passwords
    → users_fault users ≡ None → AreUsers users
unfolding users_fault
users_by users true true n p h = record { names = names_apart users n; passwords = kept_passwords users p }
users_by users true false n p h = let none : Some BadPassword ≡ None = rw (n, p) at h in cc
users_by users false passwords n p h = let none : Some NameTwice ≡ None = rw (n) at h in cc

pub users_kept : (users : List User) → users_fault users ≡ None → AreUsers users
users_kept users h = users_by users _ _ refl refl h
