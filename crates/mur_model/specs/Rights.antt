-- Who may do what; no mailbox's access list is asked. An administrator may do everything, and each user everything at their
-- own mailbox and below it but to make that mailbox itself (RFC 9051, 6.3.4 leaves it to the server).
use Rattle.std.specs.Prelude.{ℕ, Bool, false, ◌&&◌, ◌||◌, not, List, Option, None, Some}
use Rattle.std.specs.List.{find}
use Rattle.mur_base.specs.declared.user.User.{User}
use Rattle.mur_base.specs.Inbox.{owns, is_own}
use Rattle.mur_base.specs.Users.{is_user_named}

-- the user of a name, if there is one
unfoldable pub user_named : List User → List ℕ → Option User
user_named users name = find (is_user_named name) users

unfoldable pub is_admin_user : Option User → Bool
is_admin_user None = false
is_admin_user (Some user) = user.admin

abbrev pub is_admin : List User → List ℕ → Bool
is_admin users user = is_admin_user (user_named users user)

unfoldable pub has_rights : List User → List ℕ → List ℕ → Bool
has_rights users user name = is_admin users user || owns user name

unfoldable pub may_create : List User → List ℕ → List ℕ → Bool
may_create users user name = is_admin users user || (owns user name && not (is_own user name))
