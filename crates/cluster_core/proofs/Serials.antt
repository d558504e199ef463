-- The last UIDVALIDITY is never reached: a client's command has one at most reserved for it, and takes two bytes of the client or more.
pub mod Counting
pub mod Lines
pub mod Senders
pub mod Reserved
pub mod InFlow
pub mod MasterLinks
pub mod GoesOnLines
pub mod Awaits
pub mod AtHome
pub mod Asked
pub mod AtMaster
pub mod Steps
pub mod Barred
pub mod SerialsLeft
