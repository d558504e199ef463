pub mod InputLaws
pub mod FrameSizes
pub mod TranscriptGrows
pub mod RequestsOf
pub mod RequestsSound
pub mod PlainNames
mod ListedPlain
pub mod TurnLines
pub mod AnswersEnd
pub mod SoundStores
pub mod SoundWorks
pub mod SoundAnswers
pub mod TranscriptLaw
pub mod ReadLaw
