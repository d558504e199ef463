-- What an event of a node makes of the place of each command.
pub mod Stays
pub mod Numbered
pub mod FrontSends
pub mod FrontFirst
pub mod FrontHears
pub mod FrontTakes
pub mod FrontWorlds
