pub mod Items
pub mod Steps
pub mod Link
pub mod NameRun
pub mod Rows
pub mod LinkOk
pub mod NameLaw
pub mod ManyNames
