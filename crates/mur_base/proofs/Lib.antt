pub mod DecimalReadBack
pub mod EmptyLevels
pub mod NamesFit
mod PatternMarks
mod ReadDigits
pub mod MapLaws
pub mod MapOrder
pub mod UsersLaw
pub mod InboxLaw
pub mod OwnLaw
