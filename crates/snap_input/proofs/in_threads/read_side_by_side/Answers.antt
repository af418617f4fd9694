-- `read_side_by_side` of snap_input (src/in_threads.rt): the proof of what its contract says.
use Rattle.std.proofs.Common.{◌∙◌, ap}
use Rattle.rayon.specs.Lists.{min_len_base}
use Rattle.snap_input.proofs.SideBySide.{side_by_side}
use Rattle.snap_input.proofs.in_threads.read_side_by_side.Goals as goal

pub returns : goal.returns
returns g c =
    let h = c.in_ok-schedules.ensures in
    let base = ap min_len_base c.map.ensures.base ∙ c.with_min_len.ensures.base in
    side_by_side c.map.result.f.1.now c.args.program.now
    (ap (λ f. f.1.now) c.map.ensures.f) h.1.0 c.args.texts.now
    (h.1.1 ∙ (ap (λ it. it.slice.now) base ∙ c.par_iter.ensures)) h.0 c.in_ok-schedules.schedules h.1.2 h.2
