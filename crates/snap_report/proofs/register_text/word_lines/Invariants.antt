-- `word_lines` of snap_report (src/register_text.rt): what holds at the head of each of its loops.
use Rattle.std.proofs.Common.{◌≡◌, ◌++◌, ◌+◌, drop, false}
use Rattle.snap_semantics.specs.Report.{word_lines}
use Rattle.snap_report.proofs.register_text.word_lines.Given as goal

abbrev pub invariant-loop-k : goal.invariant-loop-k
invariant-loop-k g l =
    l.out.failed ≡ false →
    (l.fn.out.failed ≡ false)
    × (l.out.text ++ word_lines l.machine.source.kind (l.k + 1) (drop l.k l.machine.state.memory.words)
    ≡ l.fn.out.text ++ word_lines l.machine.source.kind 1 l.machine.state.memory.words)
