-- `failure_of_steps` of snap_hunt (src/over.rt): the proof of what its contract says.
use Rattle.std.proofs.Common.{false}
use Rattle.snap_audit.proofs.Watches.{silent_here, watched_all}
use Rattle.snap_hunt.proofs.over.failure_of_steps.Goals as goal

pub note-requires-in-Some-clause-passed : goal.note-requires-in-Some-clause-passed
note-requires-in-Some-clause-passed g c κs within = (
  c.loop-counter.walk,
  record {
    watches = c.loop-counter.invariant.watches;
    quiet = c.silent_lines.result.now;
    silent =
        silent_here c.loop-counter.walk c.loop-counter.watch c.loop-counter.invariant.watches
        c.silent_lines.result.now c.silent_lines.ensures;
    tells_skips = false;
    tells = rw c.in-Some.is at c.in_ok-passed.ensures.told;
  },
)

pub failure-requires-clause-watch : goal.failure-requires-clause-watch
failure-requires-clause-watch g c κs within =
    let none = rw c.in_default.is at c.in_ok-passed.ensures.told in
    watched_all c.silent_lines.result.now false c.loop-counter.watch c.loop-counter.walk c.next_told.new.self
    c.silent_lines.ensures none c.loop-counter.invariant.watches

pub failure-requires-clause-overrun : goal.failure-requires-clause-overrun
failure-requires-clause-overrun g c κs within =
    let none = rw c.in_default.is at c.in_ok-passed.ensures.told in
    let counted = c.loop-counter.invariant in
    rw (c.finish-overrun.ensures, counted.steps.most_is, c.most_steps-most.ensures, c.kind.ensures)
    (rw (c.shape.ensures.shape, none.over.run, counted.run, c.requires.steps))
