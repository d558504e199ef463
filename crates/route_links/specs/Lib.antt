pub mod Answered
pub mod Barriers
pub mod Events
pub mod Decided
pub mod AsTheStore
