-- The definitions of snap_image, by their modules.
pub mod Operands
pub mod ImageCodes
pub mod Image
pub mod ImageForms
pub mod ImageInstrs
pub mod ImageListing
pub mod Assembly
pub mod Widths
pub mod Laws
pub mod Reads
pub mod Head
pub mod DecoderSteps
pub use Rattle.snap_image.specs.Laws
