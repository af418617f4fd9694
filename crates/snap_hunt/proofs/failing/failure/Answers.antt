-- `failure` of snap_hunt (src/failing.rt): the proof of what its contract says.
use Rattle.std.proofs.Common.{◌≡◌, ap, subst, sym, ◌∙◌}
use Rattle.snap_runs.specs.Audit.{audit}
use Rattle.snap_runs.specs.Run.{Run, events_of}
use Rattle.snap_run_judge.specs.RunHistory.{IsHistoryOf}
use Rattle.snap_run_judge.proofs.Shown.{is_history}
use Rattle.snap_audit.proofs.Watches.{whole_way}
use Rattle.snap_hunt.specs.Failing.{of_collects, of_points}
use Rattle.snap_hunt.proofs.Judging.{found_judged, found_seen}
use Rattle.snap_hunt.proofs.failing.failure.Given.{Over}
use Rattle.snap_hunt.proofs.failing.failure.Goals as goal
use Rattle.snap_hunt.proofs.failing.failure.Goals.{After-program}

its_history : (g : Over) (c : After-program g) → IsHistoryOf c.args.walk.now.run c.program.result.now
    (record { shape = c.shape.result; events = c.into_events.result.items })
its_history g c =
    let w = c.args.walk.now in
    is_history w.run c.program.result.now c.shape.result c.into_events.result.items
    (rw (whole_way w c.requires.end) at c.requires.watch.notes.fits)
    (c.program.ensures.value ∙ c.machine-machine.ensures.source)
    (c.shape.ensures.shape ∙ c.machine-machine.ensures.shape)
    (c.into_events.ensures w c.requires.watch ∙ ap (events_of w.run) c.requires.end)

pub of_judgement-requires : goal.of_judgement-requires
of_judgement-requires g c = (c.args.walk.now.run, its_history g (goal.at.of_judgement-requires g c).After-program)

pub returns-then-is_some : goal.returns-then-is_some
returns-then-is_some g c =
    let r = c.args.walk.now.run in
    found_judged c.args.wanted.now r c.in_ok-judged.judged
    (c.in_ok-judged.ensures r (its_history g (goal.at.returns-then-is_some g c).After-program))
    (sym c.is_some.ensures ∙ c.if-is_some.true)

pub returns : goal.returns
returns g c =
    let w = c.args.walk.now in
    let wanted = c.args.wanted.now in
    let vs = c.in_ok-verdicts.verdicts.items in
    let m = c.machine-machine.ensures in
    let told = c.in_ok-verdicts.ensures in
    let points : of_points wanted vs ≡ of_points wanted (audit w.run) =
    subst (λ (r : Run). of_points wanted vs ≡ of_points wanted (audit r)) (whole_way w c.requires.end)
    (told.points w c.requires.watch) in
    let collects : of_collects wanted vs ≡ of_collects wanted (audit w.run) =
    subst (λ (r : Run). of_collects wanted vs ≡ of_collects wanted (audit r)) (whole_way w c.requires.end)
    (told.collects w c.requires.watch) in
    found_seen wanted w.run c.in_ok-judged.judged c.first_seen.result
    (c.in_ok-judged.ensures w.run (its_history g (goal.at.returns g c).After-program))
    (sym c.is_some.ensures ∙ c.if-is_some.false)
    (c.first_seen.ensures
    ∙ rw (c.as_slice.ensures.value, points, collects, m.state, m.shape) (rw (c.requires.end, c.requires.overrun)))
