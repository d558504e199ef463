pub mod LinesLaw
pub mod AboveLaw
pub mod RoutesLaw
pub mod StreamLaw
