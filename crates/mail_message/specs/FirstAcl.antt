-- The access list of a new mailbox (RFC 4314, 2): an identifier and its rights, with a TAB behind each.
use Rattle.std.specs.Prelude.{ℕ, ◌==◌, nat_eq, if◌then◌else◌, List, [], ◌∷◌, ◌++◌, take, drop, position, Option, None, Some, codes}
use Rattle.std.specs.List.{starts_with}
use Rattle.mur_base.specs.Ascii.{tab, dot}

abbrev pub level_before : List ℕ → Option ℕ → List ℕ
level_before text None = text
level_before text (Some at) = take at text

-- the text before the first separator
unfoldable pub first_level : List ℕ → List ℕ
first_level text = level_before text (position (λ b. b == dot) text)

-- the owner has all rights (RFC 4314, 2.1)
unfoldable pub owner_acl : List ℕ → List ℕ
owner_acl owner = owner ++ (tab ∷ (codes "lrswipkxtea" ++ tab ∷ []))

-- `user.NAME` and what is below it belong to the user NAME; another mailbox belongs to nobody, and its list is empty
unfoldable pub first_acl : List ℕ → List ℕ
first_acl name = if starts_with nat_eq name (codes "user.") then owner_acl (first_level (drop 5 name)) else []
