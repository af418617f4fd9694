-- The definitions of snap_chance, by their modules.
pub mod Draws
pub mod Plan
pub mod Turns
pub mod Stories
pub mod Paces
pub mod Priorities
pub mod Chance
