-- What a home keeps through every ask.
use Rattle.std.specs.Prelude.{◌≡◌, ℕ, ◌<◌, ◌≤◌, Bool, true, false, List, Option, None, Some, All}
use Rattle.std.specs.List.Sorted.{IsStrictlySortedBy}
use Rattle.std.specs.Ordering.{nat_cmp}
use Rattle.std.specs.Cmp.Lexicographic.{slice_cmp}
use Rattle.mur_base.specs.Map.{IsInOrder}
use Rattle.mur_base.specs.declared.home.Phase.{Phase}
use Rattle.mur_base.specs.declared.home.Phase.TheVariants.{Open}
use Rattle.mail_message.specs.Boxes.{IsRising}
use Rattle.mail_store.specs.Kept.{IsLaterContent, AreUidsBelowNext, KeepsMessages}
use Rattle.backend_core.specs.declared.backend.Backend.{Backend}
use Rattle.node_record.specs.declared.held.Held.{Held}
use Rattle.backend_core.specs.HomeStep.{held_at}

unfoldable pub is_open : Phase → Bool
is_open Open = true
is_open _ = false

-- by what the home has of a name
unfoldable pub is_open_here : Option Held → Bool
is_open_here None = false
is_open_here (Some held) = is_open held.phase

-- the names stand in rising byte order, each once
abbrev pub HasNamesInOrder : Backend → Type 0
HasNamesInOrder home = IsInOrder (slice_cmp nat_cmp) home.held

-- a mailbox goes on
abbrev pub MailboxStays : Held → Option Held → Type 0
MailboxStays held None = ⊥
MailboxStays held (Some later) = IsLaterContent held.content later.content

-- UIDs that rise strictly, from UIDNEXT on and below the later UIDNEXT
abbrev pub AreNewUids : List ℕ → Held → Option Held → Type 0
AreNewUids uids held None = ⊥
AreNewUids uids held (Some later) = All (λ uid. (held.content.next ≤ uid) × (uid < later.content.next)) uids × IsStrictlySortedBy nat_cmp uids

-- in each mailbox here
abbrev pub HasUidsBelowNext : Backend → Type 0
HasUidsBelowNext home = (name : List ℕ) (held : Held) → held_at home name ≡ Some held → AreUidsBelowNext held.content

-- a mailbox goes on with all its messages
abbrev pub LosesNoMessage : Held → Option Held → Type 0
LosesNoMessage held None = ⊥
LosesNoMessage held (Some later) = KeepsMessages held.content later.content

-- the messages of a name stand in strictly rising order of UID
abbrev pub RisesAt : Backend → List ℕ → Type 0
RisesAt home name = (held : Held) → held_at home name ≡ Some held → IsRising held.content.messages

-- those of each name
abbrev pub HasRisingUids : Backend → Type 0
HasRisingUids home = (name : List ℕ) → RisesAt home name
