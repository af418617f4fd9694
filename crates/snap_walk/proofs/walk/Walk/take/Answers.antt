-- `Walk::take` of snap_walk (src/walk.rt): the proof of what its contract says.
use Rattle.std.proofs.Common.{◌≡◌, suc, sym, ap, subst, ◌+◌, arith}
use Rattle.snap_runs.specs.Run.{item, run_over}
use Rattle.snap_walk.specs.Walk.{Way}
use Rattle.snap_walk.proofs.Walks.{few_skips, more, skips_few}
use Rattle.snap_walk.proofs.walk.Walk.take.Goals as goal

pub overflow_add-self-2 : goal.overflow_add-self-2
overflow_add-self-2 g c =
    let h = c.self.invariant in
    let few = few_skips (run_over c.self.inside.machine.source c.self.inside.schedule.now) c.self.inside.done in
    let skips = h.skips in
    let within = h.within in
    let most = h.schedule.few in
    let one = c.skip_count.ensures in
    let at_most = skips_few c.apply_idle-outcome.result in
    omega (arith, few, skips, within, most, one, at_most)

pub invariant_of-self : goal.invariant_of-self
invariant_of-self g c =
    let w = c.self.inside in
    more w.machine w.schedule.now w.done w.skipped w.ahead c.self.invariant c.apply_idle-outcome.new.machine
    c.apply_idle-outcome.result c.in-Some.item c.pass.ensures.0 c.pass.new.self (w.skipped + c.skip_count.result)
    (subst (λ (v : Way). c.in-Some.item ≡ item v.run (suc v.at)) (sym c.self.view_is) c.in-Some.ensures.1)
    c.pass.ensures.1 c.apply_idle-outcome.ensures.source c.apply_idle-outcome.ensures.shape
    c.apply_idle-outcome.ensures.done (ap (λ n. w.skipped + n) c.skip_count.ensures)
