-- The proofs of snap_reading_laws, by their modules.
pub mod Kept
