-- The definitions of snap_tasks, by their modules.
pub mod Request
