pub mod Told
pub mod Works
pub mod BarrierLaw
pub mod ListLaw
pub mod LineLaw
pub mod CreateLaw
pub mod DeleteLaw
pub mod HomeLaw
