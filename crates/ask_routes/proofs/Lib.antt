pub mod WayLaw
pub mod BarrierLaw
pub mod FirstByte
