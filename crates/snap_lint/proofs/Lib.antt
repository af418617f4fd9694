-- The proofs of snap_lint, by their modules.
pub mod Marking
pub mod Quiet
pub mod Lines
pub mod Warned
pub mod Steps
pub mod Sound
pub mod Ways
mod WarningSamples
