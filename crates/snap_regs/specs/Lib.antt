-- The definitions of snap_regs, by their modules.
pub mod Store
pub mod Access
pub mod Rows
