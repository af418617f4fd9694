-- The proofs of snap_sched, by their modules.
pub mod Apart
pub mod Greatest
pub mod Lines
pub mod Found
pub mod Spelled
pub mod JoinedItems
pub mod Fitting
pub mod Again
pub mod Round
pub mod Keeping
pub mod NextItem
pub mod Told
