-- The proofs of snap_live_output, by their modules.
pub mod Shipped
pub mod Lives
