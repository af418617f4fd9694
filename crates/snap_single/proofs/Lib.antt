-- The proofs of snap_single, by their modules.
pub mod Samples
pub mod LinearSample
pub mod PlacementSample
pub mod PrefixSample
