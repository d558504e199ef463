pub mod Commands
pub mod Carried
pub mod Barriers
pub mod FlowLines
pub mod Creates
pub mod Deletes
pub mod AtHome
pub mod Lists
