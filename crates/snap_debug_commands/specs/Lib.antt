-- The definitions of snap_debug_commands, by their modules.
pub mod CommandForms
pub mod Commands
pub mod CommandsInTurn
pub mod CommandLaws
pub mod FaultText
