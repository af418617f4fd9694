-- The definitions of snap_reading_laws, by their modules.
pub mod Operands
pub mod Told
