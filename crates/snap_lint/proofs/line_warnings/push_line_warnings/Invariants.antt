-- `push_line_warnings` of snap_lint (src/line_warnings.rt): what holds at the head of each of its loops.
use Rattle.std.proofs.Common.{◌≡◌, ◌++◌, drop}
use Rattle.std.specs.List.{flat_map}
use Rattle.snap_lint.specs.Warnings.{warning_of}
use Rattle.snap_lint.proofs.line_warnings.push_line_warnings.Given as goal

-- the warnings so far, and those that are left
abbrev pub invariant-loop-concern : goal.invariant-loop-concern
invariant-loop-concern l =
    l.warnings.items ++ flat_map (warning_of l.listing l.flow l.line) (drop l.concern-index l.concerns)
    ≡ l.fn.warnings.items ++ flat_map (warning_of l.listing l.flow l.line) l.concerns
