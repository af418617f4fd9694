-- The proofs of snap_acts, by their modules.
pub mod Scalars
pub mod Traces
