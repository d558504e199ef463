pub mod Shown
pub mod Given
pub mod TableEntries
pub mod HeldEntries
pub mod Lines
pub mod Steps
pub mod Boxes
pub mod OpenHome
