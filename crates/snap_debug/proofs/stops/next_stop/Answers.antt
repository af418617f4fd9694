-- `next_stop` of snap_debug (src/stops.rt): the proof of what its contract says.
use Rattle.std.proofs.Common.{◌≡◌, ◌+◌, ◌-◌, length, refl, sym, ◌∙◌, arith}
use Rattle.snap_debug.proofs.Walks.{no_next, none_differs, walked}
use Rattle.snap_debug.proofs.stops.next_stop.Goals as goal

pub returns-then-count-eq0-clause-stop : goal.returns-then-count-eq0-clause-stop
returns-then-count-eq0-clause-stop g c =
    let r = c.args.recording.now.run in
    let t = c.args.here.now.position in
    let all : c.total-total.result ≡ t + (length r.items - t) = omega arith in
    all ∙ sym (no_next r c.args.marks.now t (length r.items - t) (sym c.count.ensures ∙ c.if-count-eq0.true))

pub loop-current-init : goal.loop-current-init
loop-current-init g c =
    let same = c.in_ok-current.ensures in
    record {
      run = refl;
      grows = omega arith;
      stands = rw same c.requires.stands;
      reached = rw same c.requires.reached;
      unchanged = rw same (none_differs c.args.here.now.machine.state c.args.marks.now.watches);
      passed = rw same refl;
    }

pub returns-then-stops_between-clause-stop : goal.returns-then-stops_between-clause-stop
returns-then-stops_between-clause-stop g c =
    let before = c.loop-current.invariant in
    let did = c.in_ok-process.ensures in
    let w = walked c.args.marks.now c.args.here.now (c.in_ok-reach.ensures.run ∙ before.run) before.stands (omega arith)
    before.unchanged did.stands did.position did.process.0 c.stops_between.ensures in
    w.here c.if-stops_between.true ∙ before.passed

pub loop-current-preserved : goal.loop-current-preserved
loop-current-preserved g c =
    let before = c.loop-current.invariant in
    let did = c.in_ok-process.ensures in
    let run = c.in_ok-reach.ensures.run ∙ before.run in
    let w = walked c.args.marks.now c.args.here.now run before.stands (omega arith)
    before.unchanged did.stands did.position did.process.0 c.stops_between.ensures in
    record {
      run = run;
      grows = omega arith;
      stands = w.stands;
      reached = omega (arith, did.position, c.in_ok-reach.ensures.reached);
      unchanged = w.unchanged c.if-stops_between.false;
      passed = w.later c.if-stops_between.false ∙ before.passed;
    }
