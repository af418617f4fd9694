-- The definitions of snap_prompt, by their modules.
pub mod Ask
pub mod Edits
pub mod SaveForm
pub mod Typed
pub mod Changed
pub mod Explained
pub mod Greeting
pub mod Help
pub mod Hints
pub mod Listed
pub mod Prompt
pub mod Said
pub mod Reach
pub mod Saved
pub mod Shows
pub mod Conversation
