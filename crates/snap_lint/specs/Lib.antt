-- The definitions of snap_lint, by their modules.
pub mod Marks
pub mod Flow
pub mod Fields
pub mod Warnings
pub mod Sound
pub mod Check
pub mod Lint
