pub mod Characters
pub mod Utf8
pub mod Strings
pub mod Tags
pub mod FlagNames
pub mod StatusItems
