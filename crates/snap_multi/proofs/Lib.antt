-- The proofs of snap_multi, by their modules.
pub mod Samples
