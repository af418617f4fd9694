-- The proofs of snap_streams, by their modules.
pub mod Lines
pub mod Dialogs
pub mod Parts
pub mod Faults
pub mod Texts
