pub mod Commands
pub mod Drill
pub mod DrillCluster
pub mod LineKinds
pub mod Summary
pub mod Values
