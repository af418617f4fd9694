-- The lemmas of snap_history_text, by their modules.
pub mod Noted
pub mod Reading
pub mod Follows
pub mod Tokens
pub mod FormsAgain
pub mod Round
mod Samples
