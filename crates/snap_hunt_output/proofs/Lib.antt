-- The proofs of snap_hunt_output, by their modules.
pub mod Finding
