-- The proofs of snap_prompt, by their modules.
pub mod AddedItems
pub mod Added
pub mod KeepsRun
pub mod LastItems
pub mod Goals
pub mod Fewest
