-- `verdict_with` of snap_why (src/answer.rt): what holds at the head of each of its loops.
use Rattle.std.proofs.Common.{◌≡◌, drop}
use Rattle.snap_why.specs.Answer.{verdict_with}
use Rattle.snap_why.proofs.answer.verdict_with.Given as goal

abbrev pub invariant-loop-verdict : goal.invariant-loop-verdict
invariant-loop-verdict l = verdict_with (drop l.verdict-index l.verdicts) l.item ≡ verdict_with l.verdicts l.item
