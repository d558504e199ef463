pub mod Host
pub mod SystemHost
