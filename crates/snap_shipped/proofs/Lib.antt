-- The proofs of snap_shipped, by their modules.
pub mod TextOfU
pub mod TextOfB
pub mod TextOfM
mod Kept
