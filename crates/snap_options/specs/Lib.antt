-- The definitions of snap_options, by their modules.
pub mod CommandLines
pub mod Given
