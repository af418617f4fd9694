-- The definitions of snap_runs_of_b, by their modules.
pub mod ListingB
pub mod Promises
pub mod Bounded
