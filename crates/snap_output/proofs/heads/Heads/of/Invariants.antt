-- `Heads::of` of snap_output (src/heads.rt): what holds at the head of its loop.
use Rattle.std.proofs.Common.{◌≡◌, ◌+◌, ◌++◌, drop, map}
use Rattle.snap_text.specs.Drafted.{Drafted}
use Rattle.snap_output.specs.Touched.{head_texts}
use Rattle.snap_output.proofs.heads.Heads.of.Given as goal

-- the lines so far, and those of the processes that are left
abbrev pub invariant-loop-k : goal.invariant-loop-k
invariant-loop-k g l =
    map (λ (d : Drafted). d.text) l.lines.items ++ head_texts (l.k + 1) (drop l.k l.machine.state.processes)
    ≡ head_texts 1 l.machine.state.processes
