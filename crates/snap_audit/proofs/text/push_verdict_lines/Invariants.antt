-- `push_verdict_lines` of snap_audit (src/text.rt): what holds at the head of each of its loops.
use Rattle.std.proofs.Common.{◌≡◌, ◌++◌, drop, false}
use Rattle.snap_audit.specs.VerdictText.{verdict_lines}
use Rattle.snap_audit.proofs.text.push_verdict_lines.Given as goal

abbrev pub invariant-loop-verdict : goal.invariant-loop-verdict
invariant-loop-verdict l =
    l.out.failed ≡ false →
    (l.fn.out.failed ≡ false)
    × (l.out.text ++ verdict_lines (drop l.verdict-index l.verdicts) ≡ l.fn.out.text ++ verdict_lines l.verdicts)
