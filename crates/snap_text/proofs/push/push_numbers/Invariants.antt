-- `push_numbers` of snap_text (src/push.rt): what holds at the head of each of its loops.
use Rattle.std.proofs.Common.{◌≡◌, ◌++◌, drop}
use Rattle.snap_semantics.specs.Report.{numbers_text}
use Rattle.snap_text.proofs.push.push_numbers.Given as goal

abbrev pub invariant-loop-number : goal.invariant-loop-number
invariant-loop-number l =
    l.out.items ++ numbers_text (drop l.number-index l.numbers) ≡ l.fn.out.items ++ numbers_text l.numbers
