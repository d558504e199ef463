pub mod Drill
pub mod Output
pub mod ReadBack
pub mod Replay
pub mod Status
pub mod TopCall
pub mod Writing
