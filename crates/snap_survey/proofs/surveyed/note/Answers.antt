-- `note` of snap_survey (src/surveyed.rt): the proof of what its contract says.
use Rattle.std.proofs.Common.{ap, sym, ◌∙◌}
use Rattle.snap_semantics.specs.State.{State, process_at}
use Rattle.snap_semantics.specs.Table.{who}
use Rattle.snap_runs.specs.Run.{state}
use Rattle.snap_survey.specs.Tally.{noted}
use Rattle.snap_survey.proofs.Tallies.{few_noted, noted_passed, tallied_before, untrapped}
use Rattle.snap_survey.proofs.surveyed.note.Goals as goal
use Rattle.snap_survey.proofs.surveyed.note.Goals.{then-is_trap, else-is_trap}

pub note-requires : goal.note-requires
note-requires g c =
    let w = c.requires.passed.0 in
    let on = c.requires.passed.1 in
    let p = c.args.passed.now in
    let a = c.args.tally.now in
    few_noted on.tells.between c.args.walk.now p a on.tells.passes (tallied_before w c.args.walk.now a p on)

pub returns : goal.returns
returns g c =
    let w = c.requires.passed.0 in
    let on = c.requires.passed.1 in
    let v = c.args.walk.now in
    let p = c.args.passed.now in
    let a = c.args.tally.now in
    let stands = (process_at (state v.run v.at) (who p.item)).status in
    let so = noted_passed on.tells.between v p a on.tells.passes (tallied_before w v a p on) in
    elim c.if-is_trap.branch [
      | then-is_trap t ↦
          c.note.ensures
          ∙ ap (noted a p.number p.item p.outcome)
          (t.status-is ∙ t.status-status.ensures
          ∙ ap (λ i. (process_at t.machine.result.now.state i).status) t.who.ensures
          ∙ ap (λ (S : State). (process_at S (who p.item)).status) t.machine.ensures.state)
          ∙ so
      | else-is_trap t ↦
          c.note.ensures
          ∙ untrapped a p.number p.item p.outcome c.if-is_trap.status stands
          (sym c.is_trap.ensures ∙ t.if-is_trap.false)
          ∙ so
    ]
