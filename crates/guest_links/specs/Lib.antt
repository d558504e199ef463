pub mod Outputs
pub mod Guests
pub mod Happenings
pub mod Served
pub mod Reading
