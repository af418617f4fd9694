-- `warnings_text` of snap_lint (src/text.rt): what holds at the head of each of its loops.
use Rattle.std.proofs.Common.{◌≡◌, ◌++◌, drop, false}
use Rattle.snap_lint.specs.Lint.{warnings_text}
use Rattle.snap_lint.proofs.text.warnings_text.Given as goal

-- the lines so far, and those of the warnings left
abbrev pub invariant-loop-warning : goal.invariant-loop-warning
invariant-loop-warning l =
    l.out.failed ≡ false → l.out.text ++ warnings_text (drop l.warning-index l.warnings) ≡ warnings_text l.warnings
