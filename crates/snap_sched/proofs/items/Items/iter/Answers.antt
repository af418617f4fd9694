-- `Items::iter` of snap_sched (src/items.rt): the proof of what its contract says.
use Rattle.snap_sched.proofs.NextItem.{started}
use Rattle.snap_sched.proofs.items.Items.iter.Goals as goal

pub invariant_of-result : goal.invariant_of-result
invariant_of-result c = started c.segments.result c.args.self.now c.segments.ensures.items c.segments.ensures.greatest
