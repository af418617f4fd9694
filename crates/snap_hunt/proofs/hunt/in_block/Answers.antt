-- `in_block` of snap_hunt (src/hunt.rt): the proof of what its contract says.
use Rattle.std.proofs.Common.{◌∙◌}
use Rattle.snap_hunt.proofs.Sides.{first_of_block}
use Rattle.snap_hunt.proofs.hunt.in_block.Goals as goal

pub returns : goal.returns
returns g c =
    let l = c.args.hunt.now.program.now in
    let p = c.args.hunt.now.plan.now in
    let w = c.args.hunt.now.wanted.now in
    let seed = c.args.hunt.now.seed in
    let runs = c.as_slice.result.now in
    first_of_block l p w seed c.args.from c.args.count runs c.as_slice-2.result.now c.first_of.result
    (c.as_slice.ensures.value ∙ c.in_ok-runs.ensures)
    (rw c.as_slice-2.ensures.value c.in_ok-found.ensures)
    c.first_of.ensures
