-- The definitions of snap_history_laws, by their modules.
pub mod RunLaws
pub mod JudgementLaws
pub mod ThreadLaws
pub mod ShippedLaws
