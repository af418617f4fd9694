-- The definitions of snap_program, by their modules.
pub mod ModelOutput
pub mod Invocations
pub mod WholeRun
pub mod Skipped
pub mod TaskRun
pub mod Answer
