-- The proofs of snapdraw, by their modules.
pub mod Drawn
