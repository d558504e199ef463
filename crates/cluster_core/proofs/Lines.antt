-- The lines with which a backend begins, with the master, what it was asked for.
pub mod Tagged
pub mod Steps
pub mod Says
pub mod AtNode
pub mod OneStep
pub mod LinesLaw
