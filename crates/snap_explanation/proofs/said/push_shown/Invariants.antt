-- `push_shown` of snap_explanation (src/said.rt): what holds at the head of each of its loops.
use Rattle.std.proofs.Common.{drop}
use Rattle.snap_explanation.specs.Said.{shown}
use Rattle.snap_explanation.proofs.Grown.{AddsBut}
use Rattle.snap_explanation.proofs.said.push_shown.Given as goal

abbrev pub invariant-loop-byte : goal.invariant-loop-byte
invariant-loop-byte l = AddsBut l.fn.out l.out (shown (drop l.byte-index l.bytes)) (shown l.bytes)
