-- `push_expected` of snap_explanation (src/texts.rt): what holds at the head of each of its loops.
use Rattle.std.proofs.Common.{length}
use Rattle.snap_explanation.specs.Texts.{expected_words}
use Rattle.snap_explanation.proofs.Grown.{AddsBut}
use Rattle.snap_explanation.proofs.texts.push_expected.Given as goal

abbrev pub invariant-loop-rest : goal.invariant-loop-rest
invariant-loop-rest l = AddsBut l.fn.out l.out (expected_words l.places l.rest) (expected_words l.places l.wanted)

abbrev pub decreases-loop-rest : goal.decreases-loop-rest
decreases-loop-rest l = length l.rest
