-- Whom a frontend asks, in each step of a run.
pub mod Noops
pub mod NodeAsks
pub mod AsksLaw
pub mod StepSends
pub mod Asked
pub mod FrontAsked
pub mod OnceLaw
pub mod ServerEnds
pub mod AskOrder
pub mod LinkEnds
pub mod EndedStays
pub mod Answers
pub mod LeftLaw
