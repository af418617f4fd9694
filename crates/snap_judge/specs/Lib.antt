-- The definitions of snap_judge, by their modules.
pub mod History
pub mod Linearizable
pub mod Steps
pub mod Configurations
pub mod Kept
pub mod Choices
pub mod Nodes
pub mod Judgement
