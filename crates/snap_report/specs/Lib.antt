-- The definitions of snap_report, by their modules.
pub mod ReportLines
pub mod OutcomeText
pub mod OutcomeLine
pub mod RunReport
pub mod WrittenLines
