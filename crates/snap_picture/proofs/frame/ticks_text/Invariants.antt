-- `ticks_text` of snap_picture (src/frame.rt): what holds at the head of each of its loops.
use Rattle.std.proofs.Common.{◌≡◌, ◌+◌, ◌-◌, ◌*◌, ◌≤◌}
use Rattle.snap_text.specs.Drafted.{Adds}
use Rattle.snap_picture.specs.FrameText.{ticks_text}
use Rattle.snap_picture.proofs.frame.ticks_text.Given as goal

-- the numbers so far, and the next one
abbrev pub invariant-loop-k : goal.invariant-loop-k
invariant-loop-k l =
    Adds l.fn.out l.out (ticks_text l.window l.step l.first l.k)
    × ((l.item ≡ l.first + l.k * l.step) × ((l.item ≤ 1002000 + 2000 * l.k) × (l.k ≤ l.count)))

abbrev pub decreases-loop-k : goal.decreases-loop-k
decreases-loop-k l = l.count - l.k
