-- The definitions of snap_survey, by their modules.
pub mod Words
pub mod Survey
pub mod Tally
pub mod Summary
pub mod SurveyText
pub mod Surveys
