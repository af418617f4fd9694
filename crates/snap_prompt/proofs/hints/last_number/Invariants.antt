-- `last_number` of snap_prompt (src/hints.rt): what holds at the head of each of its loops.
use Rattle.std.proofs.Common.{◌≡◌, drop}
use Rattle.snap_prompt.specs.Hints.{last_number}
use Rattle.snap_prompt.proofs.hints.last_number.Given as goal

abbrev pub invariant-loop-line : goal.invariant-loop-line
invariant-loop-line l = last_number l.number (drop l.line-index l.lines) ≡ last_number 0 l.lines
