-- The definitions of snap_listing_core, by their modules.
pub mod Fields
