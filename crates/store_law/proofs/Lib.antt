pub mod RisingStores
pub mod NeedsFit
pub mod MessagesLeft
pub mod NoneLost
pub mod AppendedThere
pub mod NeedsNoCause
pub mod NoRelocation
pub mod CausesTold
pub mod StaysOwn
pub mod BegunLaw
pub mod OwnRights
mod ListedAlike
pub mod ListedLines
pub mod OwnNeeds
pub mod OwnSelected
pub mod OthersUnseen
mod ContainsLaws
mod SetNames
mod FlagByFlag
mod MessagesDone
mod BodiesAsked
mod DoneAtBox
mod DoneCreate
mod DoneDelete
mod DoneExpunge
mod DoneFetch
mod DoneStore
pub mod DoneIsDone
pub mod ExaminedLaw
pub mod OpenedLaw
pub mod MirrorSteps
pub mod MirrorsAlong
pub mod MirrorNews
pub mod StoredFlags
pub mod RisingViews
pub mod MirrorFetch
mod SilentStores
pub mod MirrorLaw
pub mod LinesSpoken
pub mod CommandsSpeak
pub mod LinesLaw
mod NewsWhole
mod BoxesGrow
pub mod ViewsCover
pub mod NewsTold
pub mod LetsIn
pub mod LoginLaw
pub mod ListedLaw
