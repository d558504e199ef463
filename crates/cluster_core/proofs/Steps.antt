-- What each step of a backend and of the master makes of the place of a command.
pub mod Outs
pub mod Narrow
pub mod Murders
pub mod Heads
pub mod HomeNamed
pub mod HomeLinks
pub mod HomeSteps
pub mod HomeMoves
pub mod HomeOthers
pub mod HomeHears
pub mod HomeOwn
pub mod MasterSteps
pub mod MasterLinks
pub mod MasterOthers
pub mod MasterOwn
pub mod Worlds
pub mod Nobody
