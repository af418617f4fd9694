-- `spans_of` of snap_anatomy (src/memory.rt): what holds at the head of each of its loops.
use Rattle.std.proofs.Common.{◌≡◌}
use Rattle.snap_anatomy.specs.Memory.{spans_to}
use Rattle.snap_anatomy.proofs.memory.spans_of.Given as goal

abbrev pub invariant-loop-k : goal.invariant-loop-k
invariant-loop-k l =
    l.spans.items
    ≡ spans_to l.sought.is_within l.sought.span l.sought.view.now l.sought.values.now l.steps l.bands l.k
