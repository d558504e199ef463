pub mod Wires
pub mod Placed
pub mod BrokenLaws
mod Entries
mod FirstTaken
