-- The names and the feeds are kept by each step.
pub mod Many
pub mod Backends
pub mod SentUp
pub mod Beside
pub mod AtMaster
pub mod FrontAsks
pub mod Others
pub mod Noops
pub mod Apart
pub mod AnsweredNoops
pub mod Kept
pub mod DeliveredNoops
