-- The proofs of snap_history_laws, by their modules.
mod Cut
pub mod Schedules
mod Lengths
mod FormsFit
mod ScriptsFit
mod PlaysFit
pub mod Inputs
mod Again
mod Rerun
