-- `Machine::call` of snap_machine (src/machine.rt): the proof of what its contract says.
use Rattle.std.proofs.Common.{rules, ◌≡◌, length, map, refl, ap, subst, ◌∙◌}
use Rattle.snap_machine.specs.SeenProcesses.{seen_process}
use Rattle.snap_machine.specs.Sizes.{AllSized}
use Rattle.snap_machine.proofs.Configurations.{stands_after}
use Rattle.snap_machine.proofs.machine.Machine.call.Goals as goal

pub invariant_of-self : goal.invariant_of-self
invariant_of-self g c =
    let inside = c.self.inside in
    let len_is : inside.processes.len ≡ length inside.processes.items = search rules in
    let same : length c.call.new.processes ≡ length inside.processes.items =
    c.call.auto.processes ∙ ap length c.as_mut_slice.ensures.value in
    let sized =
    subst (λ s. AllSized s inside.registers.shape (map (seen_process g.K.Kind.as_word s) c.call.new.processes))
    c.listing.ensures
    c.call.ensures.sized in
    stands_after g.K.Kind.TAG g.K.Kind.as_word inside.program inside.registers.shape inside.registers.shape
    inside.processes.items c.call.new.processes inside.processes.len c.self.invariant len_is same refl sized
