-- `call` of snap_machine (src/call.rt): the proof of what its contract says.
use Rattle.std.proofs.Common.{◌≡◌, arith, slice_index_or, ◌-◌, None}
use Rattle.std.proofs.lemmas.List.{get_or_default}
use Rattle.snap_semantics.specs.Table.{call_skip}
use Rattle.snap_machine.proofs.Steps.{called_is}
use Rattle.snap_machine.proofs.States.{sized_at, sized_set}
use Rattle.snap_machine.proofs.call.call.Goals as goal

pub returns-in-None-clause-done : goal.returns-in-None-clause-done
returns-in-None-clause-done g c =
    let s = c.args.listing.now in
    let r = c.args.registers.now in
    let ps = c.args.processes.now in
    let p = slice_index_or ps (c.args.i - 1) c.index-processes-k.result in
    let free : call_skip s.kind r.shape c.args.i c.args.op ≡ None =
    cc (c.kind.ensures, c.from.ensures, c.shape-shape.ensures.value, c.call_skip.ensures, c.in-None.is) in
    called_is g.K.Kind.as_word s r.shape r.memory ps c.args.i c.args.op p c.entry-line.result
    (omega arith) (get_or_default ps (c.args.i - 1) c.index-processes-k.result p (omega arith))
    c.in-Idle.is free c.entry-line.ensures

pub returns-in-None-clause-sized : goal.returns-in-None-clause-sized
returns-in-None-clause-sized g c =
    let s = c.args.listing.now in
    let shape = c.args.registers.now.shape in
    let ps = c.args.processes.now in
    let p = slice_index_or ps (c.args.i - 1) c.index-processes-k.result in
    sized_set g.K.Kind.as_word s shape ps (c.args.i - 1) _ c.requires.sized
    (sized_at g.K.Kind.as_word s shape ps c.args.i p (omega arith)
    (get_or_default ps (c.args.i - 1) c.index-processes-k.result p (omega arith)) c.requires.sized)
