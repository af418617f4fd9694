-- `any_differs` of snap_debug (src/stops.rt): what holds at the head of each of its loops.
use Rattle.std.proofs.Common.{◌≡◌, drop}
use Rattle.std.specs.List.{list_any}
use Rattle.snap_debug.specs.Stops.{differs}
use Rattle.snap_debug.proofs.stops.any_differs.Given as goal

-- none of those passed
abbrev pub invariant-loop-address : goal.invariant-loop-address
invariant-loop-address g l =
    list_any (differs l.before.state l.after.state) (drop l.address-index l.watches)
    ≡ list_any (differs l.before.state l.after.state) l.watches
