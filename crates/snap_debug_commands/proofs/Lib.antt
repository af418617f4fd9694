-- The proofs of snap_debug_commands, by their modules.
pub mod OnLiterals
pub mod CommandsAgain
pub mod CommandsFound
mod CommandSamples
