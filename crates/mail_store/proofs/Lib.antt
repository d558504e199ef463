pub mod AppendLaws
mod LeavesLaws
mod RisingLaw
pub mod TouchedLaws
pub mod FollowsLaws
pub mod UidsBelow
pub mod AppendKeeps
pub mod RisingUids
