-- The loop of `push_lines` (src/skipped.rt): the lines so far, and those of the calls that are left.
use Rattle.std.proofs.Common.{◌≡◌, ◌++◌, drop, false}
use Rattle.snap_program.specs.Skipped.{skipped_lines}
use Rattle.snap_program.proofs.skipped.push_lines.Given as goal

abbrev pub invariant-loop-call : goal.invariant-loop-call
invariant-loop-call l =
    l.out.failed ≡ false →
    (l.fn.out.failed ≡ false)
    × (l.out.text ++ skipped_lines (drop l.call-index l.calls) ≡ l.fn.out.text ++ skipped_lines l.calls)
