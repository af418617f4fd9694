-- `any_stands_at` of snap_debug (src/stops.rt): what holds at the head of each of its loops.
use Rattle.std.proofs.Common.{◌≡◌, drop}
use Rattle.std.specs.List.{list_any}
use Rattle.snap_debug.specs.Stops.{stands_at}
use Rattle.snap_debug.proofs.stops.any_stands_at.Given as goal

-- none of those passed
abbrev pub invariant-loop-b : goal.invariant-loop-b
invariant-loop-b l =
    list_any (stands_at l.i l.status) (drop l.b-index l.breaks) ≡ list_any (stands_at l.i l.status) l.breaks
