pub mod Node
pub mod Acted
pub mod Takes
pub mod NodeLaws
