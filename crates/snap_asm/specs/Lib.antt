-- The definitions of snap_asm, by their modules.
pub mod Declares
pub mod Numbered
pub mod SetNames
pub mod Laws
pub mod Listed
