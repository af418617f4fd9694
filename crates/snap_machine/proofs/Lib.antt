-- The proofs of snap_machine, by their modules.
pub mod States
pub mod Values
pub use Rattle.snap_machine.proofs.Sizes
pub mod Tuples
pub mod PlacesLeft
pub mod Slots
pub mod Sizes
pub mod Found
pub mod Numbered
pub mod There
pub mod LineLaws
pub mod Replicas
pub mod Passed
pub mod Configurations
pub mod Steps
pub mod Named
