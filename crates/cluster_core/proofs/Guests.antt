-- The clients at the master are given their dialogs.
pub mod Given
pub mod GuestLaw
pub mod AtMaster
pub mod AtOthers
pub mod GuestSteps
pub mod TablesStay
pub mod StartGuests
pub mod GuestsServed
