-- The proofs of snap_history_laws, by their modules.
pub mod Turning
pub mod Spans
mod Operations
mod Linear
mod Closing
mod Playing
mod Noting
pub mod Shipped
mod Samples
mod MadeUp
