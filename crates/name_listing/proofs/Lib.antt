pub mod Above
pub mod FoundLaw
pub mod FoundOrder
pub mod InboxTaken
pub mod LinesLaw
pub mod OneListing
pub mod ShownFits
pub mod ToldLaw
pub mod Wildcards
mod PlainFront
