-- The proofs of snap_page, by their modules.
pub mod Names
pub mod Short
pub mod Answered
pub mod Judging
