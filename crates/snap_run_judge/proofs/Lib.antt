-- The proofs of snap_run_judge, by their modules.
pub mod Sizes
pub mod Histories
pub mod Words
pub mod Shown
