-- The proofs of snap_regs, by their modules.
pub mod Contents
pub mod NewRegisters
pub mod Puts
pub mod RowsOfBits
pub mod Words
