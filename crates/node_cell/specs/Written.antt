-- What a node wrote: the entries on the disk of its journal, where it has one.
use Rattle.std.specs.Prelude.{◌≡◌, ℕ, Bool, true, false, ◌||◌, List, [], Option, None, Some, is_some}
use Rattle.mur_disk.specs.declared.disk.Disk.{Ghosts}
use Rattle.mur_journal.specs.declared.journal.Journal.{Journal}
use Rattle.mur_journal.specs.Image.{HasEntries, entries_of}
use Rattle.mur_journal.specs.Parts.{disk_of}
use Rattle.node_step.specs.declared.node.NodeState.{NodeState}
use Rattle.node_step.specs.declared.node.NodeState.TheVariants as node

-- a frontend writes nothing
unfoldable pub is_front : NodeState → Bool
is_front (node.Front front) = true
is_front (node.Back home) = false
is_front (node.Master master) = false

module _ {D : Type 0} {ghosts : Ghosts D} where
  abbrev pub entries_on : Option (Journal D ghosts) → List (List ℕ)
  entries_on None = []
  entries_on (Some journal) = entries_of (ghosts.seen (disk_of journal))

  -- its disk tells its content
  abbrev pub tells_on : Option (Journal D ghosts) → Bool
  tells_on None = true
  tells_on (Some journal) = ghosts.tells (disk_of journal)

  -- how often its disk has failed
  abbrev pub faults_on : Option (Journal D ghosts) → ℕ
  faults_on None = 0
  faults_on (Some journal) = ghosts.faults (disk_of journal)

  -- each image that a crash may leave has these entries and no others
  abbrev pub IsDurable : Option (Journal D ghosts) → List (List ℕ) → Type 0
  IsDurable None entries = entries ≡ []
  IsDurable (Some journal) entries = (image : List ℕ) → ghosts.may_leave (disk_of journal) image → HasEntries image entries

  -- only a frontend may be without a journal
  abbrev pub may_write : Option (Journal D ghosts) → NodeState → Bool
  may_write journal node = is_some journal || is_front node
