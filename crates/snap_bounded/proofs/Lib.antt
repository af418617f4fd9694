-- The proofs of snap_bounded, by their modules.
pub mod Samples
