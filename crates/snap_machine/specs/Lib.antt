-- The definitions of snap_machine, by their modules.
pub mod Undo
pub mod Written
pub mod SeenPlaces
pub mod WritePlace
pub mod TupleValues
pub mod Lines
pub mod Rows
pub use Rattle.snap_machine.specs.Sizes
pub mod Quantifiers
pub mod SeenProcesses
pub mod Sizes
pub mod Current
pub mod ReadLines
pub mod SeenContents
pub mod Configuration
