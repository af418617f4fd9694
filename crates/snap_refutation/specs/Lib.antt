-- The definitions of snap_refutation, by their modules.
pub mod Operations
pub mod Candidates
pub mod Refutations
pub mod Sights
