-- The proofs of snap_promised, by their modules.
pub mod Shipped
