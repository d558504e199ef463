-- What a backend has of each name, folded from the entries of its disk.
use Rattle.std.specs.Prelude.{◌≡◌, ℕ, ◌+◌, ◌-◌, ◌^◌, min, Bool, true, false, if◌then◌else◌, List, [], ◌∷◌, ◌++◌, map, Option, None, Some}
use Rattle.std.specs.List.{AllByRecursion, fold}
use Rattle.std.specs.Ordering.{nat_cmp}
use Rattle.std.specs.Cmp.Lexicographic.{slice_cmp}
use Rattle.mur_base.specs.declared.home.Phase.{Phase}
use Rattle.mur_base.specs.declared.home.Phase.TheVariants.{Creating, Open, Closing, Receiving, Ready, Pointer}
use Rattle.mur_base.specs.Map.{value_at, with_entry, with_value, without_key}
use Rattle.mail_message.specs.declared.message.Message.{Message}
use Rattle.mail_message.specs.declared.message.Row.{Row}
use Rattle.mail_message.specs.declared.change.Change.{Change}
use Rattle.mail_message.specs.declared.change.Change.TheVariants.{Put, SetFlags, Gone, NextUid}
use Rattle.mail_message.specs.Boxes.{empty_box, content_after, content_after_all, LeavesNext}
use Rattle.mail_message.specs.RowOrder.{HasNext}
use Rattle.node_record.specs.declared.held.Held.{Held}
use Rattle.node_record.specs.declared.backend.BackendRecord.{BackendRecord}
use Rattle.node_record.specs.declared.backend.BackendRecord.TheVariants as entry

abbrev pub Names : Type 0
Names = List (List ℕ × Held)

abbrev pub held_at : Names → List ℕ → Option Held
held_at names name = value_at (slice_cmp nat_cmp) names name

-- above each UID that an entry puts there is a UIDNEXT (RFC 9051, 2.3.1.1)
abbrev pub EntryLeavesNext : BackendRecord → Type 0
EntryLeavesNext (entry.Make name serial acl) = Unit {0}
EntryLeavesNext (entry.Opened name) = Unit {0}
EntryLeavesNext (entry.Added name messages) = AllByRecursion (λ message. HasNext message.uid) messages
EntryLeavesNext (entry.Flagged name rows) = Unit {0}
EntryLeavesNext (entry.Gone name uids) = Unit {0}
EntryLeavesNext (entry.Closing name) = Unit {0}
EntryLeavesNext (entry.Begun name giver serial acl) = Unit {0}
EntryLeavesNext (entry.Took name changes) = AllByRecursion LeavesNext changes
EntryLeavesNext (entry.Ready name next) = Unit {0}
EntryLeavesNext (entry.Pointer name server) = Unit {0}
EntryLeavesNext (entry.Forget mailboxes) = Unit {0}

-- a home that may be written to: the name is open here
abbrev pub IsOpen : Option Held → Type 0
IsOpen None = ⊥
IsOpen (Some it) = it.phase ≡ Open

abbrev pub IsWritableHome : Names → List ℕ → Type 0
IsWritableHome names name = IsOpen (held_at names name)

-- the UID of the last message
abbrev pub last_uid : ℕ → List Message → ℕ
last_uid uid [] = uid
last_uid uid (it ∷ messages) = last_uid it.uid messages

-- the next message gets the UID behind the last one's, if there is one
abbrev pub next_behind : List Message → List Change
next_behind [] = []
next_behind (it ∷ messages) = NextUid (min (last_uid it.uid messages + 1) (2 ^ 32 - 1)) ∷ []

-- what puts messages into a mailbox
abbrev pub puts : List Message → List Change
puts messages = map Put messages ++ next_behind messages

-- what gives messages other flags
abbrev pub relabels : List Row → List Change
relabels rows = map (λ row. SetFlags row.uid row.flags) rows

-- what takes messages away
abbrev pub removals : List ℕ → List Change
removals uids = map Gone uids

abbrev pub with_phase : Phase → Held → Held
with_phase phase it = record { phase = phase; giver = None; content = it.content }

abbrev pub with_changes : List Change → Held → Held
with_changes changes it = record it { content = content_after_all it.content changes }

abbrev pub is_receiving : Phase → Bool
is_receiving Receiving = true
is_receiving Creating = false
is_receiving Open = false
is_receiving Closing = false
is_receiving Ready = false
is_receiving (Pointer server) = false

-- a pointer has no content
abbrev pub has_content : Phase → Bool
has_content Creating = true
has_content Open = true
has_content Closing = true
has_content Receiving = true
has_content Ready = true
has_content (Pointer server) = false

-- only what comes in takes the changes of a transfer
abbrev pub took_in : List Change → Held → Held
took_in changes it = if is_receiving it.phase then with_changes changes it else it

abbrev pub ready_in : ℕ → Held → Held
ready_in next it = if is_receiving it.phase then record { phase = Ready; giver = it.giver; content = content_after it.content (NextUid next) } else it

-- a name with content, changed; other names, and one without content, stay as they are
abbrev pub changed_if : Names → List ℕ → (Held → Held) → Option Held → Names
changed_if names name change None = names
changed_if names name change (Some it) = with_value (slice_cmp nat_cmp) names name (if has_content it.phase then change it else it)

abbrev pub changed : Names → List ℕ → (Held → Held) → Names
changed names name change = changed_if names name change (held_at names name)

abbrev pub placed : Names → List ℕ → Held → Names
placed names name it = with_entry (slice_cmp nat_cmp) names name it

abbrev pub forgotten : Names → List ℕ → Names
forgotten names name = without_key (slice_cmp nat_cmp) names name

-- moved to a server
abbrev pub pointer : List ℕ → Held
pointer server = record { phase = Pointer server; giver = None; content = empty_box 0 [] }

-- what a backend has after an entry
abbrev pub held_after : Names → BackendRecord → Names
held_after names (entry.Make name serial acl) = placed names name (record { phase = Creating; giver = None; content = empty_box serial acl })
held_after names (entry.Opened name) = changed names name (with_phase Open)
held_after names (entry.Added name messages) = changed names name (with_changes (puts messages))
held_after names (entry.Flagged name rows) = changed names name (with_changes (relabels rows))
held_after names (entry.Gone name uids) = changed names name (with_changes (removals uids))
held_after names (entry.Closing name) = changed names name (with_phase Closing)
held_after names (entry.Begun name giver serial acl) = placed names name (record { phase = Receiving; giver = Some giver; content = empty_box serial acl })
held_after names (entry.Took name changes) = changed names name (took_in changes)
held_after names (entry.Ready name next) = changed names name (ready_in next)
held_after names (entry.Pointer name server) = placed names name (pointer server)
held_after names (entry.Forget mailboxes) = fold forgotten names mailboxes

-- phases and contents of a disk with these entries
abbrev pub phases_of : List BackendRecord → Names
phases_of entries = fold held_after [] entries
