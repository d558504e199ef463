pub mod History
pub mod Laters
pub mod FirstCourse
pub mod Marked
pub mod Reached
pub mod Moments
