-- The proofs of snap_report, by their modules.
pub mod Lines
