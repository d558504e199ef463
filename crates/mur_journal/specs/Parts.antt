-- The disk of a journal, and whether it is spent.
use Rattle.std.specs.Prelude.{Bool}
use Rattle.mur_disk.specs.declared.disk.Disk.{Ghosts}
use Rattle.mur_journal.specs.declared.journal.Journal.{Journal}

abbrev pub disk_of : {D : Type 0} {ghosts : Ghosts D} → Journal D ghosts → D
disk_of journal = journal.disk

abbrev pub journal_is_spent : {D : Type 0} {ghosts : Ghosts D} → Journal D ghosts → Bool
journal_is_spent journal = journal.spent
