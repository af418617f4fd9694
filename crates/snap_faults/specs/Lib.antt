-- The definitions of snap_faults, by their modules.
pub mod RefusalText
pub mod Faults
pub mod Names
pub mod FaultText
pub mod Told
