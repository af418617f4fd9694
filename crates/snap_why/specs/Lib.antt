-- The definitions of snap_why, by their modules.
pub mod Answer
pub mod Trap
pub mod Why
pub mod Troubles
pub mod TroubleText
