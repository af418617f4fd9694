-- `by_process` of snap_live_output (src/uncalled.rt): the proof of what its contract says. Once the calls of a process
-- are told, those of the next one are left.
use Rattle.std.proofs.Common.{◌+◌, append_assoc, arith}
use Rattle.std.proofs.lemmas.List.{at_drop_more}
use Rattle.snap_live.specs.Script.{no_script}
use Rattle.snap_live_output.specs.Uncalled.{by_process}
use Rattle.snap_live_output.proofs.uncalled.by_process.Goals as goal

pub loop-k-preserved : goal.loop-k-preserved
loop-k-preserved c =
    let k = c.loop-k.k in
    let scripts = c.args.scripts.now in
    let one_more = at_drop_more (λ ss. by_process (k + 1) ss c.args.calls.now) scripts k no_script (omega arith) in
    rw (c.in_ok-push_calls_of.ensures, append_assoc, ← one_more) c.loop-k.invariant
