-- The proofs of snap_hunt, by their modules.
pub mod Traps
pub mod Products
pub mod Watching
pub mod Counting
pub mod Operations
pub mod Judging
pub mod Alike
pub mod Cutting
pub mod Sides
pub mod Runs
