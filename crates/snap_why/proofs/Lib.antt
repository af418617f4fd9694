-- The proofs of snap_why, by their modules.
pub mod Chains
pub mod Told
pub mod Traces
pub mod Places
