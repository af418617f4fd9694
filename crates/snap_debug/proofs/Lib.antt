-- The proofs of snap_debug, by their modules.
pub mod Following
pub mod Recordings
pub mod ReversibleMachines
pub mod Contents
pub mod Walks
pub mod Bounds
