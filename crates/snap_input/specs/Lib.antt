-- The definitions of snap_input, by their modules.
pub mod Input
pub mod Parts
pub mod Schedules
pub mod ManySchedules
pub mod RefusesAtOnce
