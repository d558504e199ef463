-- What holds of whole runs, and of an event behind any run.
pub mod HeadlineLaw
pub mod BehindLaw
