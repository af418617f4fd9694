-- `talk` of snap_streams (src/turns.rt): the proof of what its contract says.
use Rattle.snap_streams.proofs.Dialogs.{passed_all, passed_more, shown_all, shown_more}
use Rattle.snap_streams.proofs.Parts.{between_turns, on_err, shown_between, shown_within, turn_taken, within_turn}
use Rattle.snap_streams.proofs.turns.talk.Goals as goal

pub returns-then-not-branch-clause-passes : goal.returns-then-not-branch-clause-passes
returns-then-not-branch-clause-passes g c =
    passed_all g.P.Respondent.prompt_of g.P.Respondent.says g.P.Respondent.next_of _ _ _ _ _ _ _ c.loop-count.invariant.passed
    c.in_ok-take_turn.ensures.passes c.if-not-branch.true

pub returns-then-not-branch-clause-shown : goal.returns-then-not-branch-clause-shown
returns-then-not-branch-clause-shown g c =
    shown_all g.P.Respondent.prompt_of g.P.Respondent.says g.P.Respondent.next_of _ _ _ _ _ _ _ _ _ c.loop-count.invariant.shown
    c.in_ok-take_turn.ensures.shown c.if-not-branch.true

pub loop-count-preserved : goal.loop-count-preserved
loop-count-preserved g c = record {
  well = c.in_ok-take_turn.ensures.failure;
  passed =
      passed_more g.P.Respondent.prompt_of g.P.Respondent.says g.P.Respondent.next_of _ _ _ _ _ _ _ c.loop-count.invariant.passed
      c.in_ok-take_turn.ensures.passes c.if-not-branch.false;
  shown =
      shown_more g.P.Respondent.prompt_of g.P.Respondent.says g.P.Respondent.next_of _ _ _ _ _ _ _ _ _ _ c.loop-count.invariant.shown
      c.in_ok-take_turn.ensures.rest c.in_ok-take_turn.ensures.shown c.if-not-branch.false;
  taken =
      turn_taken g.P.Respondent.prompt_of g.P.Respondent.says g.P.Respondent.next_of _ _ _ _ _ _ _ _ _ c.loop-count.invariant.taken
      c.in_ok-take_turn.ensures.rest c.in_ok-take_turn.ensures.shown c.if-not-branch.false;
}

pub returns-in_err-take_turn-clause-passes_part : goal.returns-in_err-take_turn-clause-passes_part
returns-in_err-take_turn-clause-passes_part g c =
    on_err c.from_residual.result
    (within_turn g.P.Respondent.prompt_of g.P.Respondent.says g.P.Respondent.next_of _ _ _ _ _ c.loop-count.invariant.passed
    c.in_err-take_turn.ensures.passes_part)

pub returns-in_err-take_turn-clause-shows_part : goal.returns-in_err-take_turn-clause-shows_part
returns-in_err-take_turn-clause-shows_part g c =
    on_err c.from_residual.result
    (shown_within g.P.Respondent.prompt_of g.P.Respondent.says g.P.Respondent.next_of _ _ _ _ _ _ _ c.loop-count.invariant.shown
    c.in_err-take_turn.ensures.shows_part)

pub returns-clause-passes_part : goal.returns-clause-passes_part
returns-clause-passes_part g c =
    between_turns g.P.Respondent.prompt_of g.P.Respondent.says g.P.Respondent.next_of _ _ _ _ c.loop-count.invariant.passed

pub returns-clause-shows_part : goal.returns-clause-shows_part
returns-clause-shows_part g c =
    shown_between g.P.Respondent.prompt_of g.P.Respondent.says g.P.Respondent.next_of _ _ _ _ _ _
    c.loop-count.invariant.shown
