-- `run_live` of snap_live (src/live_run.rt): the proof of what its contract says.
use Rattle.std.proofs.Common.{◌≡◌, ◌∙◌, List, sym, subst}
use Rattle.std.specs.Prelude.{All}
use Rattle.snap_semantics.specs.declared.fault.Fault.{Fault}
use Rattle.snap_live.specs.declared.seat_state.Setting.{Setting}
use Rattle.snap_semantics.specs.declared.refusal.LiveRefusal.{LiveRefusal}
use Rattle.snap_live.specs.LiveRun.{MayFault}
use Rattle.snap_live.specs.Shown.{DeskView, SeatView}
use Rattle.snap_live.proofs.Workers.{at_desk, nobody_missing, run_ends, run_faults}
use Rattle.snap_live.proofs.live_run.run_live.Goals as goal

pub close-requires-after_bounds : goal.close-requires-after_bounds
close-requires-after_bounds g c κs within =
    let d : DeskView = c.in_ok-desk.desk in
    subst (λ (ss : List SeatView). All (λ (s : SeatView). s.desk ≡ d) ss) (sym c.results_of-seats.ensures.seats)
    (at_desk (g.G.Gate.may_answer c.args.gate.now) d c.args.scripts.now.scripts c.args.limit
    c.in_ok-worked.worked.items c.in_ok-worked.ensures)

pub unreachable-requires : goal.unreachable-requires
unreachable-requires g c =
    let s = c.results_of-seats in
    let base : Setting = record { source = c.args.program.now; shape = c.args.scripts.now.shape } in
    let of_base : c.in_ok-desk.desk.base ≡ base = rw (← c.shape.ensures.shape) c.in_ok-desk.ensures.desk in
    nobody_missing (g.G.Gate.may_answer c.args.gate.now) c.in_ok-desk.desk base c.args.scripts.now.scripts
    c.args.limit c.in_ok-worked.worked.items c.in_ok-worked.ensures
    of_base c.shape.ensures.scripts.each s.result.seats.items s.ensures.seats c.in_default.field-0.0
    c.in_default.ensures.missing.0

pub returns-in-None-clause-ok : goal.returns-in-None-clause-ok
returns-in-None-clause-ok g c =
    let s = c.results_of-seats in let k = c.in-Ok in
    let base : Setting = record { source = c.args.program.now; shape = c.args.scripts.now.shape } in
    let of_base : c.in_ok-desk.desk.base ≡ base = rw (← c.shape.ensures.shape) c.in_ok-desk.ensures.desk in
    run_ends (g.G.Gate.may_answer c.args.gate.now) c.in_ok-desk.desk base c.args.scripts.now.scripts c.args.limit
    c.in_ok-worked.worked.items c.in_ok-worked.ensures
    of_base c.shape.ensures.scripts.each s.result.seats.items s.ensures.seats k.kept k.ensures.kept.0 k.ensures.kept.1
    s.result.turns.items s.ensures.turns (sym s.ensures.stop ∙ c.in-None.is)

pub returns-in-Some-clause-err : goal.returns-in-Some-clause-err
returns-in-Some-clause-err g c =
    let s = c.results_of-seats in let k = c.in-Ok in let f = c.in-Some in
    let base : Setting = record { source = c.args.program.now; shape = c.args.scripts.now.shape } in
    let of_base : c.in_ok-desk.desk.base ≡ base = rw (← c.shape.ensures.shape) c.in_ok-desk.ensures.desk in
    subst (λ (x : Fault LiveRefusal).
    MayFault (g.G.Gate.may_answer c.args.gate.now) base c.args.scripts.now.scripts c.args.limit x)
    (sym c.fault_of.ensures)
    (run_faults (g.G.Gate.may_answer c.args.gate.now) c.in_ok-desk.desk base c.args.scripts.now.scripts c.args.limit
    c.in_ok-worked.worked.items c.in_ok-worked.ensures
    of_base c.shape.ensures.scripts.each s.result.seats.items s.ensures.seats k.kept k.ensures.kept.0 k.ensures.kept.1
    c.items-items.ensures.fits c.items-items.ensures.few f.process f.stop (sym s.ensures.stop ∙ f.is))
