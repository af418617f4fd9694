-- `breaks_without` of snap_debug (src/marks.rt): what holds at the head of each of its loops.
use Rattle.std.proofs.Common.{◌≡◌, not, take}
use Rattle.std.specs.List.{filter}
use Rattle.snap_debug.specs.Marks.{same_breakpoint}
use Rattle.snap_debug.proofs.marks.breaks_without.Given as goal

-- what was kept of those passed
abbrev pub invariant-loop-c : goal.invariant-loop-c
invariant-loop-c l = l.kept.items ≡ filter (λ c. not (same_breakpoint l.b c)) (take l.c-index l.breaks)
