-- The definitions of snap_sched, by their modules.
pub mod Segments
pub mod Kept
pub mod ReaderSteps
pub mod Spelling
pub mod Laws
pub mod ItemsLeft
pub mod ScriptForms
pub mod ScriptText
