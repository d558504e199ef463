pub mod Config
pub mod Draft
pub mod Json
pub mod Names
pub mod Nodes
pub mod Rules
pub mod Words
pub mod WordsCommand
