pub mod Spelled
pub mod Written
pub mod OneTalk
pub mod BackEvents
pub mod MasterEvents
pub mod OneHome
pub mod Validities
pub mod Created
