-- The proofs of snap_history_laws, by their modules.
mod Crashing
mod Matching
mod Linear
mod Once
mod Cutting
mod Judged
mod Shipped
