-- `words_local` of snap_report (src/process_text.rt): what holds at the head of each of its loops.
use Rattle.std.proofs.Common.{◌≡◌, ◌++◌, ◌+◌, ◌-◌, drop, length, map, false}
use Rattle.snap_semantics.specs.Report.{words_local}
use Rattle.snap_report.proofs.process_text.words_local.Given as goal

abbrev pub invariant-loop-k : goal.invariant-loop-k
invariant-loop-k g l =
    l.out.failed ≡ false →
    (l.fn.out.failed ≡ false)
    × (l.out.text ++ words_local l.kind l.name (l.k + 1) (map g.K.Kind.as_word (drop l.k l.words))
    ≡ l.fn.out.text ++ words_local l.kind l.name 1 (map g.K.Kind.as_word l.words))

abbrev pub decreases-loop-k : goal.decreases-loop-k
decreases-loop-k g l = length l.words - l.k
