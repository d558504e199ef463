pub mod Faults
pub mod Image
pub mod Parts
pub mod Settled
