-- `warnings` of snap_lint (src/line_warnings.rt): what holds at the head of each of its loops.
use Rattle.std.proofs.Common.{◌≡◌, ◌++◌, drop}
use Rattle.std.specs.List.{flat_map}
use Rattle.snap_lint.specs.Flow.{reach_of}
use Rattle.snap_lint.specs.Warnings.{line_warnings, warnings_by}
use Rattle.snap_lint.proofs.line_warnings.warnings.Given as goal

-- the warnings so far, and those of the lines left
abbrev pub invariant-loop-line : goal.invariant-loop-line
invariant-loop-line l =
    l.warnings.items ++ flat_map (line_warnings l.listing (reach_of l.listing)) (drop l.line-index l.lines)
    ≡ warnings_by l.listing (reach_of l.listing)
