-- The proofs of snap_asm, by their modules.
pub mod Adding
pub mod DeclaredLines
pub mod Numbering
pub mod Places
pub mod Back
