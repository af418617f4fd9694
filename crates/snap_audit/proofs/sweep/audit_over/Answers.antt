-- `audit_over` of snap_audit (src/sweep.rt): the proof of what its contract says.
use Rattle.std.proofs.Common.{◌≡◌, IfOk, false, subst, ◌∙◌}
use Rattle.std.proofs.lemmas.Result.{IfOk-weaker}
use Rattle.snap_runs.specs.Audit.{audit}
use Rattle.snap_runs.specs.Run.{Run}
use Rattle.snap_walk.specs.Walk.{Way}
use Rattle.snap_audit.specs.Watch.{Watches, so_far}
use Rattle.snap_audit.proofs.Watches.{fewer_left, same_run, silent_here, watched_all, whole_way}
use Rattle.snap_audit.proofs.sweep.audit_over.Goals as goal

pub note-requires-clause-passed : goal.note-requires-clause-passed
note-requires-clause-passed g c κs within = (
  c.loop-watch.walk,
  record {
    watches = c.loop-watch.invariant.watches;
    quiet = c.silent_lines.result.now;
    silent =
        silent_here c.loop-watch.walk c.loop-watch.watch c.loop-watch.invariant.watches c.silent_lines.result.now
        c.silent_lines.ensures;
    tells_skips = false;
    tells = rw c.in-Some.is at c.in_ok-passed.ensures.told;
  },
)

pub loop-watch-preserved : goal.loop-watch-preserved
loop-watch-preserved g c =
    let told = rw c.in-Some.is at c.in_ok-passed.ensures.told in
    record {
      run = same_run _ _ _ _ _ told ∙ c.loop-watch.invariant.run;
      watches = c.in_ok-note.ensures.watches;
    }

pub loop-watch-smaller : goal.loop-watch-smaller
loop-watch-smaller g c = fewer_left _ _ _ _ _ (rw c.in-Some.is at c.in_ok-passed.ensures.told)

pub verdicts-requires : goal.verdicts-requires
verdicts-requires g c =
    let none = rw c.in_default.is at c.in_ok-passed.ensures.told in (
      c.next_told.new.self,
      watched_all _ _ _ _ _ c.silent_lines.ensures none c.loop-watch.invariant.watches,
    )

pub returns : goal.returns
returns g c =
    let w = c.next_told.new.self in
    let none = rw c.in_default.is at c.in_ok-passed.ensures.told in
    let watches = watched_all _ _ _ _ _ c.silent_lines.ensures none c.loop-watch.invariant.watches in
    subst (λ (r : Run). IfOk c.verdicts.result (λ v. v.items ≡ audit r))
    (whole_way w none.end ∙ none.over.run ∙ c.loop-watch.invariant.run)
    (IfOk-weaker c.verdicts.result (λ v. (u : Way) → Watches u c.loop-watch.watch → v.items ≡ audit (so_far u))
    (λ v. v.items ≡ audit (so_far w)) (λ v is. is w watches) c.verdicts.ensures)
