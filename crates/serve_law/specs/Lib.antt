pub mod AsTheStore
pub mod DoneHere
