pub mod Logs
pub mod Mix
pub mod Replay
pub mod Rules
pub mod Run
pub mod RunsAsLogged
pub mod Stamps
