-- The definitions of snap_history_text, by their modules.
pub mod JudgementText
pub mod HistoryForms
pub mod HistoryText
pub mod HistoryLaws
pub mod ReaderSteps
