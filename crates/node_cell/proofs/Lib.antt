pub mod BatchLaws
pub mod FrontLaws
pub mod LineLaws
pub mod LogLaws
pub mod ReplayLaws
pub mod RoomLaws
