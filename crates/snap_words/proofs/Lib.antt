-- The proofs of snap_words, by their modules.
pub mod HandshakeLists
pub mod Masks
pub mod Words
