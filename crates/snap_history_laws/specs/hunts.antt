-- The definitions of snap_history_laws, by their modules.
pub mod Shipped
