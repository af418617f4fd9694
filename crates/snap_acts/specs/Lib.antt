-- The definitions of snap_acts, by their modules.
pub mod Tells
pub mod Trace
pub mod Loans
pub mod Searches
