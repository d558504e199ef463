pub mod Append
pub mod Expunge
pub mod Faults
pub mod Named
pub mod Store
pub mod Kept
