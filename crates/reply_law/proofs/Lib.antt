pub mod Computes
pub mod Searches
pub mod SearchViews
pub mod Sought
