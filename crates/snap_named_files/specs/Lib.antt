-- The definitions of snap_named_files, by their modules.
pub mod Named
pub mod Texts
pub mod Explained
