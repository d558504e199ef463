-- What LIST tells of names (RFC 9051, 6.3.9 and 7.3.1). Given are the names of the mailboxes on which a user has rights, as they are shown.
use Rattle.std.specs.Prelude.{◌≡◌, ℕ, Bool, false, ◌&&◌, not, ◌==◌, ◌-◌, nat_eq, if◌then◌else◌, List, [], ◌∷◌, ◌++◌, length, take, drop, codes, ◌≤◌, All}
use Rattle.std.specs.Prelude.{Option, None, Some}
use Rattle.std.specs.List.{list_any, starts_with}
use Rattle.std.specs.Ordering.{nat_cmp}
use Rattle.std.specs.Cmp.Lexicographic.{slice_cmp}
use Rattle.std.specs.Str.{bytes_eq}
use Rattle.mur_base.specs.Ascii.{percent, dot}
use Rattle.mur_base.specs.Inbox.{behind_inbox, moved}
use Rattle.mur_base.specs.Map.{value_at, IsInOrder}
use Rattle.mur_base.specs.Patterns.{is_wildcard, matches}
use Rattle.imap_types.specs.declared.reply.Attribute.{Attribute}
use Rattle.imap_types.specs.declared.reply.Attribute.TheVariants.{None as no_attribute, NonExistent}

-- an empty mailbox argument asks for the separator of levels, whatever the reference
unfoldable pub asks_separator : List ℕ → Bool
asks_separator mailbox = length mailbox == 0

-- the pattern of a command: the mailbox argument behind the reference, where a first level that is INBOX in any case is INBOX (RFC 9051, 5.1)
unfoldable pub pattern_of : List ℕ → List ℕ → List ℕ
pattern_of reference mailbox = moved (reference ++ mailbox) (codes "INBOX") (behind_inbox (reference ++ mailbox))

-- no wildcard stands before so many bytes of the pattern
abbrev pub IsPlainFront : ℕ → List ℕ → Type 0
IsPlainFront front pattern = (front ≤ length pattern) × All (λ byte. is_wildcard byte ≡ false) (take front pattern)

-- '%' is the last byte of the pattern
unfoldable pub ends_in_percent : List ℕ → Bool
ends_in_percent pattern = bytes_eq (percent ∷ []) (drop (length pattern - 1) pattern)

unfoldable pub is_among : List (List ℕ) → List ℕ → Bool
is_among names name = list_any (bytes_eq name) names

-- the level stands above the name, which goes on with a separator
unfoldable pub is_above : List ℕ → List ℕ → Bool
is_above level name = starts_with nat_eq name (level ++ dot ∷ [])

-- A name that matches is told as a mailbox, where it is one. If the pattern ends in '%', levels above mailboxes that match are told too.
unfoldable pub listed_as : List ℕ → List (List ℕ) → List ℕ → Option Attribute
listed_as pattern names name =
    if not (matches pattern name) then None
    else if is_among names name then Some no_attribute
    else if ends_in_percent pattern && list_any (is_above name) names then Some NonExistent
    else None

-- names as LIST tells them, with what it tells of each
abbrev pub Lines : Type 0
Lines = List (List ℕ × Attribute)

-- the names stand in the order of their bytes, each once, and no other is told
pub record IsListing (pattern : List ℕ) (names : List (List ℕ)) (lines : Lines) : Type 0 where
  pub rising : IsInOrder (slice_cmp nat_cmp) lines
  pub told : (name : List ℕ) → value_at (slice_cmp nat_cmp) lines name ≡ listed_as pattern names name
