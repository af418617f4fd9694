-- The proofs of snap_chance, by their modules.
pub mod Turning
pub mod Moving
pub mod Distinct
