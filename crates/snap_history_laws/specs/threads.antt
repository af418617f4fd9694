-- The definitions of snap_history_laws, by their modules.
pub mod Told
pub mod RunLaws
pub mod DeskLaws
pub mod ShippedLaws
