-- What holds before the first step.
pub mod Kinds
pub mod Places
pub mod Fresh
pub mod Ups
pub mod FrontUps
pub mod Quiet
pub mod Begins
pub mod StartLaw
