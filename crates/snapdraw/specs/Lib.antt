-- The definitions of snapdraw, by their modules.
pub mod Drawings
pub mod Drawing
pub mod Answer
