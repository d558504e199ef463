-- INBOX, the name under which a user is shown their own mailbox, and with it the names below (RFC 9051, 5.1).
use Rattle.std.specs.Prelude.{ℕ, Bool, true, ◌&&◌, ◌==◌, nat_eq, nat_le, if◌then◌else◌}
use Rattle.std.specs.Prelude.{List, [], ◌∷◌, ◌++◌, length, take, drop, Option, None, Some, is_some, codes}
use Rattle.std.specs.List.{starts_with}
use Rattle.std.specs.Str.{bytes_eq, str_eq_ignore_ascii_case}
use Rattle.mur_base.specs.Ascii.{dot}

-- the user's own mailbox
unfoldable pub own_name : List ℕ → List ℕ
own_name user = codes "user." ++ user

-- a level ends here: at the name's end or at a separator
unfoldable pub is_level_end : List ℕ → Bool
is_level_end [] = true
is_level_end (b ∷ rest) = b == dot

-- what follows a mailbox's name in its own name, which is nothing, or in that of one below it
unfoldable pub behind : List ℕ → List ℕ → Option (List ℕ)
behind top name =
    if starts_with nat_eq name top && is_level_end (drop (length top) name) then Some (drop (length top) name) else None

-- the name is in the user's personal namespace: their own mailbox or one below it (RFC 2342, 3)
unfoldable pub owns : List ℕ → List ℕ → Bool
owns user name = is_some (behind (own_name user) name)

-- the name is that of the user's own mailbox
unfoldable pub is_own : List ℕ → List ℕ → Bool
is_own user name = bytes_eq (own_name user) name

-- what follows a first level that is INBOX in any case
unfoldable pub behind_inbox : List ℕ → Option (List ℕ)
behind_inbox text =
    if nat_le 5 (length text) && str_eq_ignore_ascii_case (take 5 text) (codes "inbox") && is_level_end (drop 5 text) then Some (drop 5 text)
    else None

-- the same name at another place, where something follows there; else this name
abbrev pub moved : List ℕ → List ℕ → Option (List ℕ) → List ℕ
moved name top None = name
moved name top (Some rest) = top ++ rest

-- a name as this user is shown it
unfoldable pub shown_name : List ℕ → List ℕ → List ℕ
shown_name user name = moved name (codes "INBOX") (behind (own_name user) name)

-- the name that this user means by a text
unfoldable pub taken_name : List ℕ → List ℕ → List ℕ
taken_name user text = moved text (own_name user) (behind_inbox text)
