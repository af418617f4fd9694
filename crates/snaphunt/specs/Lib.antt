-- The definitions of snaphunt, by their modules.
pub mod Search
pub mod Searching
pub mod Answer
