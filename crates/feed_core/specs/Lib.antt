pub mod Feed
pub mod RecLines
pub mod Listing
pub mod Above
pub mod Routes
pub mod Stream
