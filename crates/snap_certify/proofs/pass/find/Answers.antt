-- `find` of snap_certify (src/pass.rt): the proof of what its contract says.
use Rattle.std.proofs.Common.{false, ◌∙◌}
use Rattle.snap_audit.proofs.Watches.{fewer_left, same_run, silent_here, watched_all}
use Rattle.snap_certify.proofs.Passing.{found_all, found_over, silent_for, watched_end}
use Rattle.snap_certify.proofs.pass.find.Goals as goal

pub notice-requires-clause-passed : goal.notice-requires-clause-passed
notice-requires-clause-passed g c κs within =
    let h = c.loop-watch.invariant in (
      c.loop-watch.walk,
      record {
        finds = h.finds;
        quiet = c.silent_lines.result.now;
        tells_skips = false;
        silent = silent_for _ _ _ h.watches h.finds _ c.silent_lines.ensures;
        tells = rw c.in-Some.is at c.in_ok-passed.ensures.told;
      },
    )

pub note-requires-clause-passed : goal.note-requires-clause-passed
note-requires-clause-passed g c κs within = (
  c.loop-watch.walk,
  record {
    watches = c.loop-watch.invariant.watches;
    quiet = c.silent_lines.result.now;
    silent = silent_here _ _ c.loop-watch.invariant.watches _ c.silent_lines.ensures;
    tells_skips = false;
    tells = rw c.in-Some.is at c.in_ok-passed.ensures.told;
  },
)

pub loop-watch-preserved : goal.loop-watch-preserved
loop-watch-preserved g c = record {
  run = same_run _ _ _ _ _ (rw c.in-Some.is at c.in_ok-passed.ensures.told) ∙ c.loop-watch.invariant.run;
  line = c.in_ok-notice.ensures.line ∙ c.loop-watch.invariant.line;
  finds = c.in_ok-notice.ensures.finds;
  watches = c.in_ok-note.ensures.watches;
}

pub loop-watch-smaller : goal.loop-watch-smaller
loop-watch-smaller g c = fewer_left _ _ _ _ _ (rw c.in-Some.is at c.in_ok-passed.ensures.told)

pub returns-clause-finds : goal.returns-clause-finds
returns-clause-finds g c =
    let h = c.loop-watch.invariant in
    let none = rw c.in_default.is at c.in_ok-passed.ensures.told in
    found_all _ _ _ (none.over.run ∙ h.run)
    (found_over _ _ _ (silent_for _ _ _ h.watches h.finds _ c.silent_lines.ensures) _ _ none.over h.finds) none.end

pub returns-clause-watches : goal.returns-clause-watches
returns-clause-watches g c =
    let h = c.loop-watch.invariant in
    let none = rw c.in_default.is at c.in_ok-passed.ensures.told in
    watched_end _ _ _ (none.over.run ∙ h.run) (watched_all _ _ _ _ _ c.silent_lines.ensures none h.watches) none.end
