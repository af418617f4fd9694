-- `next_step` of snap_acts (src/tracer.rt): the proof of what its contract says.
use Rattle.std.proofs.Common.{ap, ◌∙◌}
use Rattle.snap_runs.proofs.Embedding.{next_state}
use Rattle.snap_walk.specs.Walk.{Way}
use Rattle.snap_runs.specs.Run.{state}
use Rattle.snap_acts.specs.Trace.{line_number, step_of}
use Rattle.snap_acts.proofs.tracer.next_step.Goals as goal

pub returns : goal.returns
unfolding step_of
returns g c =
    let w = c.args.walk.now in
    let is = rw c.in-Some-2.is at c.in_ok-number.ensures.passed in
    let m = c.machine-2.ensures in
    let line = c.line_number-line.ensures ∙ ap line_number c.line.ensures in
    let after = c.machine-3.ensures.state ∙ ap (λ (v : Way). state v.run v.at) is.way ∙ next_state w.run w.at is.left in
    record {
      left = is.left;
      step =
          rw (c.in_ok-act.ensures, c.intent_of-intent.ensures, line, c.who-process.ensures, m.source, m.shape)
          (rw (m.state, c.machine.ensures.state, after, is.number, is.outcome, c.in-Some.ensures.1));
      way = is.way;
    }
