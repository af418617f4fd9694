-- `ReversibleMachine::last` of snap_debug (src/reversible_machine.rt): the proof of what its contract says.
use Rattle.std.proofs.Common.{◌≡◌, subst}
use Rattle.std.specs.Prelude.{IfOk}
use Rattle.snap_debug.proofs.ReversibleMachines.{last_came}
use Rattle.snap_debug.proofs.reversible_machine.ReversibleMachine.last.Goals as goal

pub returns : goal.returns
returns g c = λ r h.
    subst (λ out. IfOk c.copy_outcome.result (λ o. o ≡ out))
    (last_came r c.args.self.now c.as_slice-done.result.now c.index-done-done.result h c.requires
    c.as_slice-done.ensures.value) c.copy_outcome.ensures
