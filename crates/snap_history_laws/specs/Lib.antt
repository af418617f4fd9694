-- The definitions of snap_history_laws, by their modules.
pub mod events
pub mod hunts
pub mod judgements
pub mod reruns
pub mod threads
