-- `crash` of snap_machine (src/call.rt): the proof of what its contract says.
use Rattle.std.proofs.Common.{arith, slice_index_or, ◌-◌, Some, None, refl}
use Rattle.std.proofs.lemmas.List.{get_or_default}
use Rattle.snap_semantics.specs.declared.process.Status.TheVariants.{Idle, Busy}
use Rattle.snap_machine.proofs.Steps.{crashed_is}
use Rattle.snap_machine.proofs.States.{sized_at, sized_set}
use Rattle.snap_machine.proofs.call.crash.Goals as goal

pub returns-in-Busy-clause-done : goal.returns-in-Busy-clause-done
returns-in-Busy-clause-done g c =
    let s = c.args.listing.now in
    let r = c.args.registers.now in
    let ps = c.args.processes.now in
    let a = c.in-Busy.activity in
    let p = slice_index_or ps (c.args.i - 1) c.index-processes-k.result in
    crashed_is g.K.Kind.as_word s r.memory ps c.args.i p (Busy a) (Some a)
    (omega arith) (get_or_default ps (c.args.i - 1) c.index-processes-k.result p (omega arith))
    c.in-Busy.is (λ S q. refl)

pub returns-in-Idle-clause-done : goal.returns-in-Idle-clause-done
returns-in-Idle-clause-done g c =
    let s = c.args.listing.now in
    let r = c.args.registers.now in
    let ps = c.args.processes.now in
    let p = slice_index_or ps (c.args.i - 1) c.index-processes-k.result in
    crashed_is g.K.Kind.as_word s r.memory ps c.args.i p Idle None
    (omega arith) (get_or_default ps (c.args.i - 1) c.index-processes-k.result p (omega arith))
    c.in-Idle.is (λ S q. refl)

pub returns-in-Busy-clause-sized : goal.returns-in-Busy-clause-sized
returns-in-Busy-clause-sized g c =
    let s = c.args.listing.now in
    let shape = c.args.registers.now.shape in
    let ps = c.args.processes.now in
    let p = slice_index_or ps (c.args.i - 1) c.index-processes-k.result in
    sized_set g.K.Kind.as_word s shape ps (c.args.i - 1) _ c.requires.sized
    (sized_at g.K.Kind.as_word s shape ps c.args.i p (omega arith)
    (get_or_default ps (c.args.i - 1) c.index-processes-k.result p (omega arith)) c.requires.sized)

pub returns-in-Idle-clause-sized : goal.returns-in-Idle-clause-sized
returns-in-Idle-clause-sized g c =
    let s = c.args.listing.now in
    let shape = c.args.registers.now.shape in
    let ps = c.args.processes.now in
    let p = slice_index_or ps (c.args.i - 1) c.index-processes-k.result in
    sized_set g.K.Kind.as_word s shape ps (c.args.i - 1) _ c.requires.sized
    (sized_at g.K.Kind.as_word s shape ps c.args.i p (omega arith)
    (get_or_default ps (c.args.i - 1) c.index-processes-k.result p (omega arith)) c.requires.sized)
