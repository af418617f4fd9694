-- The proofs of snap_reading_laws, by their modules.
pub mod Named
pub mod Went
pub mod Turns
pub mod Items
pub mod Scans
pub mod Followed
