pub mod Agreement
mod SweepLaws
pub mod StepLaws
pub mod RisingLaws
pub mod SentLaws
pub mod LimitLaws
pub mod StartLaws
pub mod EndLaws
pub mod TransferLaw
pub mod BatchFront
pub mod AllowedLaws
