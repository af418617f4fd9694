-- `words_before` of snap_explanation (src/names.rt): the proof of what its contract says.
use Rattle.std.proofs.Common.{arith}
use Rattle.snap_explanation.proofs.Counts.{exhausted}
use Rattle.snap_explanation.proofs.names.words_before.Goals as goal

pub returns : goal.returns
returns c = exhausted c.args.line c.loop-left.left _ _ _ (omega arith) c.loop-left.invariant
