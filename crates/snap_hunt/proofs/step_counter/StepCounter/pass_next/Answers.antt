-- `StepCounter::pass_next` of snap_hunt (src/step_counter.rt).
use Rattle.std.proofs.Common.{◌+◌, false, arith}
use Rattle.snap_semantics.specs.Table.{who}
use Rattle.snap_hunt.proofs.Counting.{busy_untold, next_left, none_counted, step_counted}
use Rattle.snap_hunt.proofs.Watching.{few_steps}
use Rattle.snap_hunt.proofs.step_counter.StepCounter.pass_next.Goals as goal

pub note-found-requires-clause-few : goal.note-found-requires-clause-few
note-found-requires-clause-few c =
    let s = c.args.self.now in
    let x = c.in-Some.item in
    let r = c.requires.0 in
    let h = c.requires.2 in
    let u = c.requires.3 in
    let next = next_left r s.done x s.ahead c.next.new.self u.left h.left c.in-Some.ensures.steps in
    few_steps r s.most s.done (who x) s.owns.items s.overrun h.steps (rw next.0 u.process)
    (omega (arith, h.few, h.within))

pub returns-then-runs_line-clause-counted : goal.returns-then-runs_line-clause-counted
returns-then-runs_line-clause-counted c = λ r quiet h u.
    let s = c.args.self.now in
    let t = s.done in
    let x = c.in-Some.item in
    let next = next_left r t x s.ahead c.next.new.self u.left h.left c.in-Some.ensures.steps in
    let busy = h.busy (who x) (rw next.0 u.process) false in
    record {
      valid = h.valid;
      few = h.few;
      done = omega arith;
      most_is = h.most_is;
      within = u.left;
      left = next.1;
      steps =
          rw c.first-self.ensures (step_counted r s.most t quiet s h u (t + 1) x c.note-found.new.owns.items
          c.note-found.result (omega arith) next.0
          (cc (busy, c.as_slice.ensures.value, c.runs_line.ensures false, c.if-runs_line.true))
          c.note-found.ensures.owns c.note-found.ensures.result);
      count = h.count;
      busy = busy_untold r s.most t quiet s h u;
    }

pub returns-else-runs_line-clause-counted : goal.returns-else-runs_line-clause-counted
returns-else-runs_line-clause-counted c = λ r quiet h u.
    let s = c.args.self.now in
    let t = s.done in
    let x = c.in-Some.item in
    let next = next_left r t x s.ahead c.next.new.self u.left h.left c.in-Some.ensures.steps in
    let busy = h.busy (who x) (rw next.0 u.process) false in
    record {
      valid = h.valid;
      few = h.few;
      done = omega arith;
      most_is = h.most_is;
      within = u.left;
      left = next.1;
      steps =
          none_counted r s.most t quiet s h u x next.0
          (cc (busy, c.as_slice.ensures.value, c.runs_line.ensures false, c.if-runs_line.false));
      count = h.count;
      busy = busy_untold r s.most t quiet s h u;
    }
