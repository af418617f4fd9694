-- `judged_survey` of snap_survey (src/surveyed.rt): the proof of what its contract says.
use Rattle.std.proofs.Common.{ap, subst, ◌∙◌}
use Rattle.snap_runs.specs.Run.{IsValidRun, events_of}
use Rattle.snap_run_judge.proofs.Shown.{is_history}
use Rattle.snap_audit.proofs.Watches.{whole_way}
use Rattle.snap_survey.proofs.surveyed.judged_survey.Goals as goal

pub judge_history-requires : goal.judge_history-requires
judge_history-requires g c =
    let w = c.args.walk.now in (
      w.run,
      is_history w.run c.program.result.now c.shape.result c.into_events.result.items
          (subst IsValidRun (whole_way w c.requires.end) c.requires.watch.notes.fits)
          (c.program.ensures.value ∙ c.machine-machine.ensures.source)
          (c.shape.ensures.shape ∙ c.machine-machine.ensures.shape)
          (c.into_events.ensures w c.requires.watch ∙ ap (events_of w.run) c.requires.end),
    )

pub returns : goal.returns
returns g c =
    let w = c.args.walk.now in
    let h =
    is_history w.run c.program.result.now c.shape.result c.into_events.result.items
    (subst IsValidRun (whole_way w c.requires.end) c.requires.watch.notes.fits)
    (c.program.ensures.value ∙ c.machine-machine.ensures.source)
    (c.shape.ensures.shape ∙ c.machine-machine.ensures.shape)
    (c.into_events.ensures w c.requires.watch ∙ ap (events_of w.run) c.requires.end) in
    (c.in_ok-failing.failing, c.in_ok-failing.ensures w.run h, rw (c.in_ok-survey.ensures, c.word_of.ensures))
