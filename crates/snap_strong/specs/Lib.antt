-- The definitions of snap_strong, by their modules.
pub mod StrongLinearization
pub mod Futures
pub mod OneWord
