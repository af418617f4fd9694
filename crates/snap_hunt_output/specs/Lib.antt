-- The definitions of snap_hunt_output, by their modules.
pub mod HuntRequest
pub mod Check
pub mod Input
pub mod Hunted
