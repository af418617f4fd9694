-- The proofs of snaphunt, by their modules.
pub mod Searches
