-- The proofs of snap_history_laws, by their modules.
pub mod Steps
pub mod Nothing
