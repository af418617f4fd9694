-- The definitions of snap_history_laws, by their modules.
pub mod Printed
pub mod RunAgain
pub mod Rerun
