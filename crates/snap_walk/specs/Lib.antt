-- The definitions of snap_walk, by their modules.
pub mod Glance
pub mod Walk
pub mod Walking
