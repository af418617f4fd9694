-- `take_turn` of snap_streams (src/turns.rt): the proof of what its contract says.
use Rattle.std.proofs.Common.{◌∙◌, refl}
use Rattle.snap_streams.proofs.Dialogs.{of_copy, turn_passed, turn_shown}
use Rattle.snap_streams.proofs.Parts.{answer_left, into_empty, none_passed, on_err, prompt_alone}
use Rattle.snap_streams.proofs.Parts.{shows_nothing, shows_of_answer, shows_of_prompt, shows_prompt}
use Rattle.snap_streams.proofs.turns.take_turn.Goals as goal

pub returns-clause-passes : goal.returns-clause-passes
returns-clause-passes g c =
    turn_passed g.P.Respondent.prompt_of g.P.Respondent.says g.P.Respondent.next_of _ _ _ _ _ _ _ _ _ _ _ _ _
    c.new-prompt.ensures.items c.new-reply.ensures.items
    (c.deref.ensures.value ∙ c.in_ok-push_prompt.ensures) c.deref-2.ensures.value
    c.in_ok-say.ensures.event c.in_ok-line.ensures.event c.in_ok-say-2.ensures.event
    (of_copy g.P.Respondent.says g.P.Respondent.next_of _ _ _ _ _ _ _ c.deref-3.ensures.value c.in_ok-goes_on.ensures)

pub returns-clause-shown : goal.returns-clause-shown
returns-clause-shown g c =
    turn_shown g.P.Respondent.prompt_of g.P.Respondent.says g.P.Respondent.next_of _ _ _ _ _ _ _ _ _ _ _ _ _ _ _
    c.new-prompt.ensures.items c.new-reply.ensures.items
    (c.deref.ensures.value ∙ c.in_ok-push_prompt.ensures) c.deref-2.ensures.value
    c.in_ok-say.ensures.shows c.say.ensures.left c.in_ok-line.ensures.line c.line.ensures.shows
    c.in_ok-say-2.ensures.shows
    (of_copy g.P.Respondent.says g.P.Respondent.next_of _ _ _ _ _ _ _ c.deref-3.ensures.value c.in_ok-goes_on.ensures)

pub returns-in_err-push_prompt-clause-passes_part : goal.returns-in_err-push_prompt-clause-passes_part
returns-in_err-push_prompt-clause-passes_part g c =
    on_err c.from_residual.result (none_passed g.P.Respondent.prompt_of _ _ _ refl)

pub returns-in_err-say-clause-passes_part : goal.returns-in_err-say-clause-passes_part
returns-in_err-say-clause-passes_part g c =
    on_err c.from_residual-in_err-say.result
    (none_passed g.P.Respondent.prompt_of _ _ _ c.in_err-say.ensures.event)

pub returns-in_err-line-clause-passes_part : goal.returns-in_err-line-clause-passes_part
returns-in_err-line-clause-passes_part g c =
    on_err c.from_residual-in_err-line.result
    (prompt_alone g.P.Respondent.prompt_of _ _ _ _ _
    c.in_ok-say.ensures.event c.in_err-line.ensures.event
    (into_empty _ _ _ (c.deref.ensures.value ∙ c.in_ok-push_prompt.ensures) c.new-prompt.ensures.items))

pub returns-in_err-goes_on-clause-passes_part : goal.returns-in_err-goes_on-clause-passes_part
returns-in_err-goes_on-clause-passes_part g c =
    on_err c.from_residual-in_err-goes_on.result
    (answer_left g.P.Respondent.prompt_of _ _ _ _ _ _ _
    c.in_ok-say.ensures.event c.in_ok-line.ensures.event refl
    (into_empty _ _ _ (c.deref.ensures.value ∙ c.in_ok-push_prompt.ensures) c.new-prompt.ensures.items))

pub returns-in_err-say-2-clause-passes_part : goal.returns-in_err-say-2-clause-passes_part
returns-in_err-say-2-clause-passes_part g c =
    on_err c.from_residual-in_err-say-2.result
    (answer_left g.P.Respondent.prompt_of _ _ _ _ _ _ _
    c.in_ok-say.ensures.event c.in_ok-line.ensures.event c.in_err-say-2.ensures.event
    (into_empty _ _ _ (c.deref.ensures.value ∙ c.in_ok-push_prompt.ensures) c.new-prompt.ensures.items))

pub returns-in_err-push_prompt-clause-shows_part : goal.returns-in_err-push_prompt-clause-shows_part
returns-in_err-push_prompt-clause-shows_part g c =
    on_err c.from_residual.result (shows_nothing g.P.Respondent.prompt_of g.P.Respondent.says _ _ _)

pub returns-in_err-say-clause-shows_part : goal.returns-in_err-say-clause-shows_part
returns-in_err-say-clause-shows_part g c =
    on_err c.from_residual-in_err-say.result
    (shows_of_prompt g.P.Respondent.prompt_of g.P.Respondent.says _ _ _ _ _ c.in_err-say.ensures.shows
    (into_empty _ _ _ (c.deref.ensures.value ∙ c.in_ok-push_prompt.ensures) c.new-prompt.ensures.items))

pub returns-in_err-line-clause-shows_part : goal.returns-in_err-line-clause-shows_part
returns-in_err-line-clause-shows_part g c =
    on_err c.from_residual-in_err-line.result
    (shows_prompt g.P.Respondent.prompt_of g.P.Respondent.says _ _ _ _ _ _
    c.in_ok-say.ensures.shows c.line.ensures.shows
    (into_empty _ _ _ (c.deref.ensures.value ∙ c.in_ok-push_prompt.ensures) c.new-prompt.ensures.items))

pub returns-in_err-goes_on-clause-shows_part : goal.returns-in_err-goes_on-clause-shows_part
returns-in_err-goes_on-clause-shows_part g c =
    on_err c.from_residual-in_err-goes_on.result
    (shows_prompt g.P.Respondent.prompt_of g.P.Respondent.says _ _ _ _ _ _
    c.in_ok-say.ensures.shows c.line.ensures.shows
    (into_empty _ _ _ (c.deref.ensures.value ∙ c.in_ok-push_prompt.ensures) c.new-prompt.ensures.items))

pub returns-in_err-say-2-clause-shows_part : goal.returns-in_err-say-2-clause-shows_part
returns-in_err-say-2-clause-shows_part g c =
    on_err c.from_residual-in_err-say-2.result
    (shows_of_answer g.P.Respondent.prompt_of g.P.Respondent.says _ _ _ _ _ _ _ _ _ _ _ _
    c.in_ok-say.ensures.shows
    (into_empty _ _ _ (c.deref.ensures.value ∙ c.in_ok-push_prompt.ensures) c.new-prompt.ensures.items)
    c.say.ensures.left c.in_ok-line.ensures.line c.line.ensures.shows c.deref-2.ensures.value
    c.in_err-say-2.ensures.shows c.new-reply.ensures.items
    c.in_ok-goes_on.ensures.0 c.in_ok-goes_on.ensures.1 (c.deref-3.ensures.value ∙ c.in_ok-goes_on.ensures.2))
