pub mod Replicas
pub mod Lines
pub mod Spelled
pub mod Streams
pub mod OneFeed
