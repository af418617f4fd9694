-- The definitions of snap_promela, by their modules.
pub mod Model
