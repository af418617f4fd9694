-- `Machine::overwritten` of snap_machine (src/machine.rt): the proof of what its contract says.
use Rattle.std.proofs.Common.{◌-◌, ◌<◌, length, ap, arith, subst}
use Rattle.snap_semantics.specs.State.{process_at}
use Rattle.snap_semantics.specs.Table.{who}
use Rattle.snap_machine.specs.Configuration.{Configuration, HasLocals}
use Rattle.snap_machine.proofs.Named.{has_locals}
use Rattle.snap_machine.proofs.machine.Machine.overwritten.Goals as goal

pub returns-clause-locals : goal.returns-clause-locals
returns-clause-locals g c =
    let inside = c.self.inside in
    let i = who c.args.item in
    let within : i - 1 < length inside.processes.items =
    (let one = c.requires.0 in
    let high = c.requires.1 in
    let count = c.self.invariant.process_count in
    let shape = ap (λ (m : Configuration). m.shape.n) c.self.view_is in
    omega (arith, one, high, count, shape)) in
    subst (λ (m : Configuration). HasLocals m.source (process_at m.state i).locals) c.self.view_is
    (has_locals g.K.Kind.as_word inside.program inside.processes.items (i - 1) within)
