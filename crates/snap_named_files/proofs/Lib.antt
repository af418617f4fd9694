-- The proofs of snap_named_files, by their modules.
mod Read
