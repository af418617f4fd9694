-- `Prompt::push_answered` of snap_prompt (src/prompt.rt): the proof of what its contract says.
use Rattle.std.proofs.Common.{refl}
use Rattle.snap_prompt.proofs.Added.{asked_adds, named, saving_adds}
use Rattle.snap_prompt.proofs.prompt.Prompt.push_answered.Goals as goal

pub returns-in-Some-saving_of : goal.returns-in-Some-saving_of
returns-in-Some-saving_of g c =
    saving_adds c.args.self.now _ c.args.line.now _ (c.in-Some-saving_of.name.now, c.in-Some-saving_of.replaces) _ _ _ _
    c.self.view_is c.saturating_add-self-inside.ensures c.in_default.is
    (named _ c.saving_of.result _ _ c.saving_of.ensures c.in-Some-saving_of.is) c.in_ok-push_saving.ensures refl

pub returns-in-Ok : goal.returns-in-Ok
returns-in-Ok g c =
    asked_adds c.push_asked.result c.args.self.now _ c.args.line.now _ _ _ _ _ c.self.view_is
    c.saturating_add-self-inside.ensures c.in_default.is
    (named _ c.saving_of.result _ _ c.saving_of.ensures c.in_default-saving_of.is) c.in-Ok.ensures
    c.push_asked.ensures.text c.push_asked.ensures.state c.push_asked.ensures.goes_on

pub returns-in-Err-Refused : goal.returns-in-Err-Refused
returns-in-Err-Refused g c =
    asked_adds c.push_asked-in-Err-Refused.result c.args.self.now _ c.args.line.now _ _ _ _ _ c.self.view_is
    c.saturating_add-self-inside.ensures c.in_default.is
    (named _ c.saving_of.result _ _ c.saving_of.ensures c.in_default-saving_of.is)
    (rw c.in-Err-Refused.field-0-is at c.in-Err-Refused.ensures)
    c.push_asked-in-Err-Refused.ensures.text c.push_asked-in-Err-Refused.ensures.state
    c.push_asked-in-Err-Refused.ensures.goes_on
