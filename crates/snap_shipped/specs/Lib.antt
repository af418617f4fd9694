-- The definitions of snap_shipped, by their modules.
pub mod Shipped
pub mod Kept
