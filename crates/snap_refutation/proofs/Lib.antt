-- The lemmas of snap_refutation, by their modules.
pub mod Origins
pub mod Listed
pub mod Refuting
pub mod Seeing
