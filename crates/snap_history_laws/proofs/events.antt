-- The proofs of snap_history_laws, by their modules.
pub mod Telling
