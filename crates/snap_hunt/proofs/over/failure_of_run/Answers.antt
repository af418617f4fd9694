-- `failure_of_run` of snap_hunt (src/over.rt): the proof of what its contract says.
use Rattle.std.proofs.Common.{false}
use Rattle.snap_audit.proofs.Watches.{silent_here, watched_all}
use Rattle.snap_hunt.proofs.over.failure_of_run.Goals as goal

pub note-requires-clause-passed : goal.note-requires-clause-passed
note-requires-clause-passed g c κs within = (
  c.loop-watch.walk,
  record {
    watches = c.loop-watch.invariant.watches;
    quiet = c.silent_lines.result.now;
    silent =
        silent_here c.loop-watch.walk c.loop-watch.watch c.loop-watch.invariant.watches c.silent_lines.result.now
        c.silent_lines.ensures;
    tells_skips = false;
    tells = rw c.in-Some.is at c.in_ok-passed.ensures.told;
  },
)

pub failure-requires-clause-watch : goal.failure-requires-clause-watch
failure-requires-clause-watch g c κs within =
    let none = rw c.in_default.is at c.in_ok-passed.ensures.told in
    watched_all c.silent_lines.result.now false c.loop-watch.watch c.loop-watch.walk c.next_told.new.self
    c.silent_lines.ensures none c.loop-watch.invariant.watches
