-- `last_stop` of snap_debug (src/stops.rt): the proof of what its contract says.
use Rattle.std.proofs.Common.{◌∙◌, sym}
use Rattle.snap_debug.proofs.Walks.{no_last}
use Rattle.snap_debug.proofs.stops.last_stop.Goals as goal

pub returns-then-count-eq0 : goal.returns-then-count-eq0
returns-then-count-eq0 g c =
    sym (no_last c.args.recording.now.run c.args.marks.now c.args.position (sym c.count.ensures ∙ c.if-count-eq0.true))
