pub mod Bodies
pub mod FlagText
pub mod Parts
