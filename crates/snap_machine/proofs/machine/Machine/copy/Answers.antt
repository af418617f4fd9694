-- `Machine::copy` of snap_machine (src/machine.rt): the proof of what its contract says.
use Rattle.std.proofs.Common.{map, ap, ◌∙◌}
use Rattle.snap_regs.specs.Store.{Store}
use Rattle.snap_machine.specs.SeenProcesses.{seen_process}
use Rattle.snap_machine.proofs.Configurations.{stands_copy}
use Rattle.snap_machine.proofs.machine.Machine.copy.Goals as goal

pub invariant_of-result : goal.invariant_of-result
invariant_of-result g c =
    let inside = c.self.inside in
    stands_copy g.K.Kind.TAG g.K.Kind.as_word inside.program c.in_ok-program.program inside.registers.shape
    c.in_ok-registers.registers.shape inside.processes.items c.in_ok-processes.processes.items
    c.self.invariant c.in_ok-program.ensures (ap (λ (r : Store). r.shape) c.in_ok-registers.ensures)
    (c.in_ok-processes.ensures inside.program
    ∙ ap (map (seen_process g.K.Kind.as_word inside.program)) c.as_slice.ensures.value)
