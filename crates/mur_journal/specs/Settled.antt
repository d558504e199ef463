-- What a journal keeps on its disk, and what a crash in an append leaves of it.
use Rattle.std.specs.Prelude.{◌≡◌, ◌⊎◌, ℕ, List, ◌++◌}
use Rattle.mur_disk.specs.Crash.{Only}
use Rattle.mur_journal.specs.Image.{Good, parsed, entries_of, HasEntries}

-- a journal is read whose closed gate is at this place, and all of it is durable
pub record IsSettled {D : Type 0} (seen : D → List ℕ) (may_leave : D → List ℕ → Type 0) (disk : D) (gate : ℕ) : Type 0 where
  pub form : parsed (seen disk) ≡ Good (entries_of (seen disk)) gate
  pub durable : Only (seen disk) (may_leave disk)

-- the entries from before, or these after them too
abbrev pub HasBeforeOrAfter : List (List ℕ) → List (List ℕ) → List ℕ → Type 0
HasBeforeOrAfter entries more image = HasEntries image entries ⊎ HasEntries image (entries ++ more)
