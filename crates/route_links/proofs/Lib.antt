pub mod Tags
pub mod AnsweredLaw
pub mod Sent
pub mod BarrierLaw
pub mod DecidedLaw
pub mod StoreLaw
