pub mod Dates
pub mod Locations
pub mod Names
