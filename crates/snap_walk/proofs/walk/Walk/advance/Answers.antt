-- `Walk::advance` of snap_walk (src/walk.rt): the proof of what its contract says.
use Rattle.std.proofs.Common.{◌≡◌, true, refl, sym, subst, ◌∙◌}
use Rattle.snap_semantics.specs.State.{process_at}
use Rattle.snap_semantics.specs.Table.{who}
use Rattle.snap_runs.specs.Run.{state}
use Rattle.snap_walk.specs.Walk.{PassesOver, Way, further, is_skip, look}
use Rattle.snap_walk.proofs.Over.{over_more, over_one, skip_untold, untold_made}
use Rattle.snap_walk.proofs.walk.Walk.advance.Goals as goal

pub loop-item-preserved : goal.loop-item-preserved
loop-item-preserved g c =
    let q = c.args.quiet.now in
    let skips = c.args.tells_skips in
    let w = c.loop-item.self in
    let x = c.in-Some.item in
    let o = c.take-item.result.1 in
    let seen = look q x (process_at (state w.run w.at) (who x)).status in
    let skip : is_skip o ≡ true = sym c.is_skip.ensures ∙ c.if-not-is_skip.false in
    let one =
    untold_made q skips w x (state w.run w.at) seen o c.in-Some.ensures.0 c.in-Some.ensures.1 c.in-Some.ensures.2 refl
    refl c.take-item.ensures.outcome (skip_untold seen o skips c.if-tells_skips.false skip) in
    subst (λ (v : Way). PassesOver q skips c.args.self.now v) (sym c.take-item.ensures.further)
    (over_more q skips c.args.self.now w (further w) c.loop-item.invariant (over_one q skips w one))
