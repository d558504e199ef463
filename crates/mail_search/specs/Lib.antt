pub mod Matching
pub mod Search
pub mod Spans
