pub mod Whose
pub mod Places
pub mod Moves
pub mod PutOff
pub mod BackSteps
pub mod Replied
pub mod MasterSteps
pub mod AllCommands
