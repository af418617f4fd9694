-- The definitions of snap_run_judge, by their modules.
pub mod RunHistory
pub mod RunJudgement
pub mod VerdictText
pub mod Judged
