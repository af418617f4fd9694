-- The proofs of snap_listing_core, by their modules.
pub mod RightLines
pub mod Uncommented
