pub mod AtOnceLaw
pub mod NeedLaw
pub mod NumbersLaw
pub mod NoExpungeLaw
pub mod RefusedLaw
