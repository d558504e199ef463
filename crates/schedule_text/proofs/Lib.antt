pub mod TextLaws
mod PutLaws
mod CutLaws
mod SplitLaws
mod OpenedLaws
mod Steps
mod HighBytes
mod WordLaws
mod ArgumentsLaws
mod RowLaws
mod ScheduleLaws
mod Shortens
mod SpelledLines
mod SpelledLaws
mod FollowLaws
mod RefusedLaws
mod MeaningLaws
mod PrintedLaws
