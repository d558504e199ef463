pub mod Inputs
pub mod Requests
pub mod Heard
pub mod FaultBye
pub mod Transcript
pub mod SessionEnds
pub mod SoundRequests
pub mod TranscriptRead
