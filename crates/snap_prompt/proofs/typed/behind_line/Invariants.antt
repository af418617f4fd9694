-- `behind_line` of snap_prompt (src/typed.rt): what holds at the head of each of its loops.
use Rattle.std.proofs.Common.{◌≡◌, length}
use Rattle.snap_prompt.specs.Typed.{behind_line}
use Rattle.snap_prompt.proofs.typed.behind_line.Given as goal

abbrev pub invariant-loop-rest : goal.invariant-loop-rest
invariant-loop-rest l = behind_line l.rest ≡ behind_line l.text

abbrev pub decreases-loop-rest : goal.decreases-loop-rest
decreases-loop-rest l = length l.rest
