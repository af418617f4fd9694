-- `new_processes` of snap_machine (src/fresh.rt): what holds at the head of each of its loops.
use Rattle.std.proofs.Common.{◌≡◌, map, replicate}
use Rattle.snap_semantics.specs.State.{initial_process}
use Rattle.snap_machine.specs.SeenProcesses.{seen_process}
use Rattle.snap_machine.proofs.fresh.new_processes.Given as goal

abbrev pub invariant-loop-k : goal.invariant-loop-k
invariant-loop-k g l =
    map (seen_process g.K.Kind.as_word l.listing) l.processes.items ≡ replicate l._k (initial_process l.listing l.shape)
