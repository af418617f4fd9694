-- The proofs of snap_walk, by their modules.
pub mod Left
pub mod Walks
pub mod Over
pub mod Ways
