-- The definitions of snap_streams, by their modules.
pub mod Event
pub mod Failures
pub mod TypedLines
pub mod Dialog
pub mod Talks
pub mod Folder
pub mod FileTexts
pub mod Ended
pub mod State
pub mod Sent
