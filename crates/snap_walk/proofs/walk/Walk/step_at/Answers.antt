-- `Walk::step_at` of snap_walk (src/walk.rt): the proof of what its contract says.
use Rattle.std.proofs.Common.{◌≡◌, suc, sym, ap, subst, ◌∙◌}
use Rattle.snap_semantics.specs.State.{State, process_at}
use Rattle.snap_semantics.specs.declared.process.Item.TheVariants.{Step}
use Rattle.snap_semantics.specs.declared.process.Status.TheVariants.{Busy}
use Rattle.snap_runs.specs.Run.{item, state}
use Rattle.snap_walk.specs.Walk.{Way}
use Rattle.snap_walk.proofs.Walks.{more, none_more, not_skipped}
use Rattle.snap_walk.proofs.walk.Walk.step_at.Goals as goal

pub invariant_of-self-2 : goal.invariant_of-self-2
invariant_of-self-2 g c =
    let w = c.self.inside in
    let m = w.machine in
    let busy =
    ap (λ (S : State). (process_at S c.args.i).status) c.self.invariant.state_is
    ∙ subst (λ (v : Way). (process_at (state v.run v.at) c.args.i).status ≡ Busy c.args.activity.now) (sym c.self.view_is)
    c.requires.at in
    let done =
    not_skipped m.source m.shape m.state c.step_at.new.self.state c.args.i c.args.activity.now c.in_ok-outcome.outcome busy
    c.in_ok-outcome.ensures.done in
    more m w.schedule.now w.done w.skipped w.ahead c.self.invariant c.step_at.new.self c.in_ok-outcome.outcome
    (Step c.args.i) c.pass.ensures.0 c.pass.new.self w.skipped
    (subst (λ (v : Way). Step c.args.i ≡ item v.run (suc v.at)) (sym c.self.view_is) c.requires.next)
    c.pass.ensures.1 c.in_ok-outcome.ensures.source c.in_ok-outcome.ensures.shape c.in_ok-outcome.ensures.done
    (none_more w.skipped c.in_ok-outcome.outcome done)
