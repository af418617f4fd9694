-- The definitions of snap_runs_of_m, by their modules.
pub mod ListingM
pub mod Promises
pub mod Bounded
