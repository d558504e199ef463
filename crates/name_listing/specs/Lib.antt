pub mod Found
pub mod Listing
pub mod Told
