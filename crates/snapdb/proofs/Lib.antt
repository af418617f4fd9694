-- The proofs of snapdb, by their modules.
pub mod Talked
