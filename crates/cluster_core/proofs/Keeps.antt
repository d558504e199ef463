-- Every event keeps the law: what comes to each node, and each event of a run.
pub mod Numbers
pub mod ToFront
pub mod ToHome
pub mod ToMaster
pub mod ToNobody
pub mod Deliver
pub mod EachEvent
pub mod Watchers
pub mod Always
pub mod AlwaysSteps
pub mod AlwaysRuns
pub mod AnyStep
