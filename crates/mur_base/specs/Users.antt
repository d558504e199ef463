-- The users of a cluster.
use Rattle.std.specs.Prelude.{◌≡◌, ◌≢◌, ℕ, ◌<◌, ◌≤◌, Bool, true, ◌&&◌, ◌==◌, not, nat_lt, nat_le, if◌then◌else◌, List, []}
use Rattle.std.specs.Prelude.{◌∷◌, length, Option, None, Some, Result, Ok, Err}
use Rattle.std.specs.List.{All, AllPairs, list_any, list_all}
use Rattle.std.specs.Str.{bytes_eq}
use Rattle.mur_base.specs.Ascii.{nul}
use Rattle.mur_base.specs.declared.user.TheConstants.{PASSWORD_LIMIT}
use Rattle.mur_base.specs.declared.user.User.{User}
use Rattle.mur_base.specs.declared.user.UsersFault.{UsersFault}
use Rattle.mur_base.specs.declared.user.UsersFault.TheVariants.{NameTwice, BadPassword}

unfoldable pub is_user_named : List ℕ → User → Bool
is_user_named name user = bytes_eq user.name name

-- no two users have one name
unfoldable pub user_names_differ : List User → Bool
user_names_differ [] = true
user_names_differ (user ∷ users) = not (list_any (is_user_named user.name) users) && user_names_differ users

unfoldable pub is_no_nul : ℕ → Bool
is_no_nul byte = not (byte == nul)

-- a password is 1 to 255 bytes without NUL
unfoldable pub is_password : List ℕ → Bool
is_password text = nat_lt 0 (length text) && nat_le (length text) PASSWORD_LIMIT && list_all is_no_nul text

unfoldable pub has_password : User → Bool
has_password user = is_password user.password

-- the first rule that a list of users breaks
unfoldable pub users_fault : List User → Option UsersFault
users_fault users =
    if not (user_names_differ users) then Some NameTwice
    else if not (list_all has_password users) then Some BadPassword
    else None

-- a list is taken as users as it is, or refused by the first rule that it breaks
abbrev pub AreTakenAsUsers : List User → Result (List User) UsersFault → Type 0
AreTakenAsUsers users (Ok taken) = (users_fault users ≡ None) × (taken ≡ users)
AreTakenAsUsers users (Err fault) = users_fault users ≡ Some fault

abbrev pub IsPassword : List ℕ → Type 0
IsPassword text = (0 < length text) × (length text ≤ PASSWORD_LIMIT) × All (λ byte. byte ≢ nul) text

-- what every list of users keeps
pub record AreUsers (users : List User) : Type 0 where
  pub names : AllPairs (λ (one other : User). one.name ≢ other.name) users
  pub passwords : All (λ (user : User). IsPassword user.password) users
