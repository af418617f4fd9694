-- `push_near_lines` of snap_prompt (src/listed.rt): what holds at the head of each of its loops.
use Rattle.std.proofs.Common.{◌≡◌, ◌++◌, drop, false}
use Rattle.snap_prompt.specs.Listed.{near_lines}
use Rattle.snap_prompt.proofs.listed.push_near_lines.Given as goal

abbrev pub invariant-loop-l : goal.invariant-loop-l
invariant-loop-l l =
    l.out.failed ≡ false →
    (l.fn.out.failed ≡ false)
    × (l.out.text ++ near_lines l.texts l.line (drop l.l-index l.lines)
    ≡ l.fn.out.text ++ near_lines l.texts l.line l.lines)
