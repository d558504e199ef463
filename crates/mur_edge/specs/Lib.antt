pub mod Asks
pub mod Counts
pub mod Host
pub mod Memory
pub mod MemoryHost
pub mod Returned
pub mod Sink
pub mod Source
