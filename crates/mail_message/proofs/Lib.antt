mod DayLaws
mod BoxLaws
mod KeywordLaws
mod KeywordTexts
mod PutFlags
pub mod FlagLaw
pub mod PlainTexts
mod NextLaws
pub mod NextRows
mod RowLaws
pub mod OtherLaws
pub mod FoundUids
mod SlotChanges
mod SlotLaws
mod WordLaws
