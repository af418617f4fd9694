-- The proofs of snap_judge_task, by their modules.
pub mod Named
pub mod AtOnce
