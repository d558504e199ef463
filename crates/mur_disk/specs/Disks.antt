-- What a disk in memory holds.
use Rattle.mur_disk.specs.declared.held.Held.{Held}
use Rattle.mur_disk.specs.declared.memory.MemDisk.{MemDisk}

abbrev pub held_of : MemDisk → Held
held_of disk = disk.held
