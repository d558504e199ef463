mod AppendLaws
pub mod Numbered
pub mod HistoryGrows
pub mod EachAnswer
pub mod ClientLaw
mod ViewLaw
mod InPlaceLaw
mod BesideLaw
mod StoreLaw
pub mod BoxGone
mod PartLaw
mod StoredLaw
mod ViewedLaw
mod KeysLaw
mod BeginsLaw
pub mod EachNeed
pub mod OwnView
mod ShownFit
pub mod GatheredLaw
pub mod MadeNames
mod ActedLaw
mod FetchedAlike
pub mod FetchRowsLaw
pub mod FetchSummariesLaw
pub mod SearchRowsLaw
