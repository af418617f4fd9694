-- `trapped_in` of snap_why (src/why.rt): the proof of what its contract says.
use Rattle.snap_why.proofs.Traces.{trapped_one}
use Rattle.snap_why.proofs.why.trapped_in.Goals as goal

pub returns-clause-one : goal.returns-clause-one
returns-clause-one c =
    rw (c.trapped_at.ensures, c.requires.steps) (trapped_one c.args.program.now c.args.schedule.now c.args.item
    c.shape-shape.ensures.schedule c.requires.within)
