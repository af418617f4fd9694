-- The definitions of snap_hunt, by their modules.
pub mod Kinds
pub mod Firsts
pub mod Failing
pub mod Finding
pub mod Watching
pub mod Counting
pub mod Operations
pub mod Hunt
pub mod Shrinking
