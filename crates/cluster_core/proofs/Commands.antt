-- Where the command of a connection is that waits, and what that place tells.
pub mod Place
pub mod AllReached
pub mod Moving
pub mod InPlace
pub mod Knows
pub mod Standing
pub mod Released
