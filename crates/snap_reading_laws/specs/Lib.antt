-- The definitions of snap_reading_laws, by their modules.
pub mod Laws
pub mod RefusedForToken
pub mod certificates
pub mod loans
pub mod stops
pub mod traps
pub mod warnings
