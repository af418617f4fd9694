-- The definitions of snap_anatomy, by their modules.
pub mod Notes
pub mod Noting
pub mod Memory
pub mod Scans
pub mod Collects
pub mod Sources
pub mod Json
pub mod StepText
pub mod ScanText
pub mod AnatomyText
