-- Where each point of a history stands.
pub mod FrontTells
pub mod MasterMarks
pub mod NodeMarks
pub mod StepMarks
pub mod Begun
pub mod Works
pub mod HomeAnswers
pub mod Makes
pub mod Unreached
pub mod HowMade
pub mod LateLines
pub mod NamesTaken
pub mod Alone
pub mod RoutedLaw
