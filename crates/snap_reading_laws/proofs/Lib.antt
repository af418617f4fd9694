-- The proofs of snap_reading_laws, by their modules.
pub mod Forms
pub mod Commands
pub mod NotLost
pub mod SpokenTokens
pub mod FirstWrong
pub mod Lines
