-- The law of one connection, by its links and its client.
pub mod FrontAnswers
pub mod Readings
pub mod Places
pub mod LastAnswer
