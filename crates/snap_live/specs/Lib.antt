-- The definitions of snap_live, by their modules.
pub mod Closed
pub mod Rule
pub mod Seats
pub mod SeatStates
pub mod Shown
pub mod Turned
pub mod Turns
pub mod Untaken
pub mod Script
pub mod Play
pub mod Sequels
pub mod Worker
pub mod LiveRun
