-- What stands on the disks, and what each step puts there.
pub mod NodeWrites
pub mod OnDisks
