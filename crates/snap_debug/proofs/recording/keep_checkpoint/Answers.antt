-- `keep_checkpoint` of snap_debug (src/recording.rt): the proof of what its contract says.
use Rattle.std.proofs.Common.{length, ap, ◌∙◌}
use Rattle.snap_record.proofs.Longer.{join_all}
use Rattle.snap_debug.specs.Recording.{IsCheckpoint}
use Rattle.snap_debug.proofs.Recordings.{recorded_stands}
use Rattle.snap_debug.proofs.recording.keep_checkpoint.Goals as goal

pub returns-in_ok-push : goal.returns-in_ok-push
returns-in_ok-push g c = λ r xs h all.
    let at = c.len-position.ensures ∙ ap length c.items.ensures.items in
    let is = c.in_ok-machine.ensures ∙ c.machine.ensures in
    rw c.in_ok-push.ensures.items
    (join_all (IsCheckpoint r) _ _ all (recorded_stands r c.args.history.now xs _ h at is, tt))
