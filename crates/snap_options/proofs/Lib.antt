-- The proofs of snap_options, by their modules.
pub mod Read
