-- The proofs of snap_live, by their modules.
pub mod Ends
pub mod Gathered
pub mod Held
pub mod Joins
pub mod Lists
pub mod Moves
pub mod Opening
pub mod Parts
pub mod Runs
pub mod Handles
pub mod Plays
pub mod Workers
