-- The definitions of snap_judge_reasons, by their modules.
pub mod RightAnswers
pub mod Reasons
pub mod FailureText
