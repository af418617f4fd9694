-- The definitions of snap_audit, by their modules.
pub mod VerdictText
pub mod Sweep
pub mod Watch
