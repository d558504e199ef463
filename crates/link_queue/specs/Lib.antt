pub mod Broken
pub mod Links
