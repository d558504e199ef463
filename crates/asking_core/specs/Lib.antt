pub mod Begins
pub mod Answered
pub mod Cleared
pub mod Laws
