pub mod Choices
pub mod Clock
pub mod Done
pub mod MomentLaws
pub mod Tears
mod UndoLaws
