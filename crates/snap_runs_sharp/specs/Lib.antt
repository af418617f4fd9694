-- The definitions of snap_runs_sharp, by their modules.
pub mod Reached
pub mod Schedules
