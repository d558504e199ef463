mod Rows
pub mod OnlyEntry
pub mod AtHome
pub mod OpenHere
mod NameAsks
pub mod Courses
pub mod Owed
pub mod Said
mod OneName
mod FlowNext
mod RestNext
