-- The definitions of snap_words, by their modules.
pub mod Shape
pub mod Word
pub mod Kind
pub mod AnyWord
pub mod ViewValues
pub mod Handshakes
pub mod KindWords
pub mod KindLaws
