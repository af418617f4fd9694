-- The definitions of snap_judge_task, by their modules.
pub mod Failing
pub mod Judged
pub mod JudgeAnswer
