pub mod NodeKinds
pub mod Counts
pub mod MasterOuts
pub mod OwnOuts
pub mod Unmarked
