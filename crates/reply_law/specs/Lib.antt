pub mod Talk
pub mod Scenes
