-- The proofs of snap_certify, by their modules.
pub mod Progressing
pub mod Findings
pub mod Writes
pub mod Sound
pub mod Complete
pub mod Chosen
pub mod Certifying
pub mod Worth
pub mod Lines
pub mod FindingSteps
pub mod Passing
pub mod Judging
