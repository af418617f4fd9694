-- The proofs of snap_input, by their modules.
pub mod Answered
pub mod Loads
pub mod Parting
pub mod Splits
pub mod Without
pub mod SideBySide
