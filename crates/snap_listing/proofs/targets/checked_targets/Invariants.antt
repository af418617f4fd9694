-- `checked_targets` of snap_listing (src/targets.rt): what holds at the head of each of its loops.
use Rattle.std.proofs.Common.{◌≡◌, drop}
use Rattle.snap_semantics.specs.Listing.{checked_targets, line_targets}
use Rattle.snap_listing.proofs.targets.checked_targets.Given as goal

-- the targets so far are lines
abbrev pub invariant-loop-line : goal.invariant-loop-line
invariant-loop-line l =
    checked_targets l.lines (line_targets (drop l.line-index l.lines)) ≡ checked_targets l.lines (line_targets l.lines)
