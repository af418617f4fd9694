-- The proofs of snap_explanation, by their modules.
pub mod Fronts
pub mod Stays
pub mod Counts
pub mod Cuts
pub mod Grown
