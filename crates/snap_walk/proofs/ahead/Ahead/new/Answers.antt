-- `Ahead::new` of snap_walk (src/ahead.rt): the proof of what its contract says.
use Rattle.snap_sched.proofs.NextItem.{started}
use Rattle.snap_walk.proofs.Left.{refilled}
use Rattle.snap_walk.proofs.ahead.Ahead.new.Goals as goal

pub invariant_of-result : goal.invariant_of-result
invariant_of-result c =
    let rest = c.segments-rest.result in
    (refilled rest c.next.new.self c.next.result c.repeated-item.result.0 c.repeated-item.result.1
    (started rest c.args.items.now c.segments-rest.ensures.items c.segments-rest.ensures.greatest)
    c.next.ensures.steps c.repeated-item.ensures).1
