-- The proofs of snap_survey, by their modules.
pub mod Summaries
pub mod Tallies
pub mod Surveying
pub mod Judging
pub mod Sides
