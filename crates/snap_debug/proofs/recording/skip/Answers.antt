-- `skip` of snap_debug (src/recording.rt): the proof of what its contract says.
use Rattle.std.proofs.Common.{sym, ◌∙◌}
use Rattle.snap_debug.proofs.Recordings.{drop_next}
use Rattle.snap_debug.proofs.recording.skip.Goals as goal

pub loop-t-preserved : goal.loop-t-preserved
loop-t-preserved c =
    sym (drop_next c.args.items.now c.next_item-item.new.items c.next_item-item.result c.loop-t._t
    (sym c.loop-t.invariant ∙ c.next_item-item.ensures))
