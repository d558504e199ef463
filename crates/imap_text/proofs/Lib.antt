pub mod StringsLaw
pub mod StringsHold
pub mod StringsPrinted
pub mod Utf8Law
pub mod NoNul
pub mod Values
