pub mod Batches
pub mod Sweeps
pub mod Transfers
pub mod Weights
