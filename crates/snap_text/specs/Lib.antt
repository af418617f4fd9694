-- The definitions of snap_text, by their modules.
pub mod Drafted
pub mod Tokens
pub mod Lines
pub mod Numbers
pub mod Calls
pub mod Laws
pub mod Changes
pub mod ChangeLaws
pub mod Owned
