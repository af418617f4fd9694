-- `skip` of snap_debug (src/recording.rt): what holds at the head of each of its loops.
use Rattle.std.proofs.Common.{◌≡◌, drop}
use Rattle.snap_debug.proofs.recording.skip.Given as goal

-- the items that are left behind
abbrev pub invariant-loop-t : goal.invariant-loop-t
invariant-loop-t l = l.items ≡ drop l._t l.fn.items
