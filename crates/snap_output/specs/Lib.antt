-- The definitions of snap_output, by their modules.
pub mod Between
pub mod Step
pub mod Trace
pub mod TraceLaws
pub mod Traces
pub mod Touched
pub mod RunOutput
pub mod ScheduleOutput
pub mod Output
pub mod AtOnce
pub mod Stages
pub mod Headline
pub mod Refusals
pub mod Perform
pub mod Replies
