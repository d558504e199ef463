pub mod Deltas
pub mod Notes
pub mod Spans
pub mod Handing
