-- `find_each` of snap_hunt (src/blocks.rt): the proof of what its contract says.
use Rattle.std.proofs.Common.{◌∙◌, ap, ℕ}
use Rattle.rayon.specs.Lists.{min_len_base}
use Rattle.snap_runs.specs.Run.{Run}
use Rattle.snap_hunt.specs.Finding.{Finds}
use Rattle.snap_hunt.specs.declared.failures.Wanted.{Wanted}
use Rattle.snap_hunt.specs.Hunt.{run_of}
use Rattle.snap_hunt.proofs.Sides.{side_by_side}
use Rattle.snap_hunt.proofs.blocks.find_each.Goals as goal

pub returns : goal.returns
returns g c =
    let h = c.in_ok-found.ensures in
    let base = ap min_len_base c.map.ensures.base ∙ c.with_min_len.ensures.base in
    let held = c.map.result.f in
    side_by_side (λ (x : Wanted × (ℕ → Run)) k o. Finds x.0 (x.1 k) o)
    (held.1.now.wanted.now, run_of held.1.now.program.now held.1.now.plan.now held.1.now.seed)
    (c.args.hunt.now.wanted.now, run_of c.args.hunt.now.program.now c.args.hunt.now.plan.now c.args.hunt.now.seed)
    (ap (λ f. (f.1.now.wanted.now, run_of f.1.now.program.now f.1.now.plan.now f.1.now.seed)) c.map.ensures.f) h.1.0 c.args.runs.now
    (h.1.1 ∙ (ap (λ it. it.slice.now) base ∙ c.par_iter.ensures)) h.0 c.in_ok-found.found h.1.2 h.2
