-- The proofs of snap_audit, by their modules.
pub mod Points
pub mod Events
pub mod Sweeping
pub mod Watches
