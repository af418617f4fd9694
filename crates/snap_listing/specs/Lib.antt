-- The definitions of snap_listing, by their modules.
pub mod LineTexts
pub mod Spelled
pub mod Laws
pub mod Rules
pub mod Sums
pub mod Checks
pub mod Targets
pub mod ListingTexts
pub mod ReaderSteps
