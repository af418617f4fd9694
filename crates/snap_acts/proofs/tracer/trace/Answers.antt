-- `trace` of snap_acts (src/tracer.rt): the proof of what its contract says.
use Rattle.std.proofs.Common.{sym, ◌∙◌, arith}
use Rattle.snap_acts.proofs.Traces.{steps_more}
use Rattle.snap_acts.proofs.tracer.trace.Goals as goal

pub loop-steps-preserved : goal.loop-steps-preserved
loop-steps-preserved g c =
    let w = c.loop-steps.walk in
    let is = rw c.in-Some.is at c.in_ok-step.ensures in
    rw is.way (
      c.loop-steps.invariant.0,
      omega (arith, is.left),
      (rw (c.loop-steps.invariant.2, is.step) at c.in_ok-push.ensures.items) ∙ sym (steps_more w.run w.at is.left),
    )
