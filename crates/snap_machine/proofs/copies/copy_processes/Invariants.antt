-- `copy_processes` of snap_machine (src/copies.rt): what holds at the head of each of its loops.
use Rattle.std.proofs.Common.{◌≡◌, map, take}
use Rattle.snap_semantics.specs.Source.{Source}
use Rattle.snap_machine.specs.SeenProcesses.{seen_process}
use Rattle.snap_machine.proofs.copies.copy_processes.Given as goal

abbrev pub invariant-loop-process : goal.invariant-loop-process
invariant-loop-process g l =
    (s : Source) → map (seen_process g.K.Kind.as_word s) l.copies.items
    ≡ map (seen_process g.K.Kind.as_word s) (take l.process-index l.processes)
