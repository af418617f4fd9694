-- The definitions of snapdb, by their modules.
pub mod Sessions
pub mod Start
pub mod Talk
pub mod Answer
