-- `Followed::new` of snap_debug (src/followed.rt): the proof of what its contract says.
use Rattle.snap_debug.proofs.Following.{started}
use Rattle.snap_debug.proofs.followed.Followed.new.Goals as goal

pub invariant_of-result : goal.invariant_of-result
invariant_of-result g c =
    started c.args.program.now c.args.shape g.K.Kind.TAG c.in_ok-new.field-0 c.new-2.result.items c.new-3.result.items
    c.requires c.in_ok-new.ensures c.new-2.ensures.items c.new-3.ensures.items
