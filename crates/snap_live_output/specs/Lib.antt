-- The definitions of snap_live_output, by their modules.
pub mod LiveAnswer
pub mod LiveOutput
pub mod LiveRuns
pub mod Uncalled
