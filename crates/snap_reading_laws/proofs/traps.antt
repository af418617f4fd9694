-- The proofs of snap_reading_laws, by their modules.
pub mod Values
pub mod Places
pub mod OneSort
pub mod FirstFaults
pub mod Traps
