-- The definitions of snap_runs_of_u, by their modules.
pub mod ListingU
pub mod Promises
pub mod Bounded
