-- The proofs of snap_anatomy, by their modules.
pub mod Beyond
pub mod Noted
