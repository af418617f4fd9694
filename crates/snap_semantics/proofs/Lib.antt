-- The proofs of snap_semantics, by their modules.
pub mod OnLiterals
pub mod Samples
