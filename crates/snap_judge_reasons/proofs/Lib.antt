-- The lemmas of snap_judge_reasons, by their modules.
pub mod Origins
pub mod Refuting
pub mod Fronts
pub mod NextAnswers
