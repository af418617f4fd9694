-- `revert` of snap_machine (src/reversal.rt): the proof of what its contract says.
use Rattle.std.proofs.Common.{◌-◌, ◌<◌, arith, length, slice_index_or, sym, subst}
use Rattle.std.proofs.lemmas.List.{get_or_default}
use Rattle.snap_machine.specs.Sizes.{AreSized}
use Rattle.snap_machine.specs.SeenPlaces.{seen_place}
use Rattle.snap_machine.specs.Undo.{CanPut, Overwritten}
use Rattle.snap_machine.proofs.LineLaws.{sized_back}
use Rattle.snap_machine.proofs.States.{reverted, sized_at, sized_set}
use Rattle.snap_machine.specs.SeenProcesses.{seen_locals}
use Rattle.snap_machine.proofs.reversal.revert.Goals as goal

pub returns-clause-state : goal.returns-clause-state
returns-clause-state g c =
    let as_word = g.K.Kind.as_word in
    let s = c.args.program.now in
    let ps = c.args.processes.now in
    let inside = c.undo.inside in
    let fits =
    subst (λ (u : Overwritten). CanPut s c.args.registers.now.shape u) (sym c.undo.view_is) c.requires.fits in
    let p = slice_index_or ps (inside.process - 1) c.index-processes-k.result in
    let within : inside.process - 1 < length ps = omega (arith, fits.0.0, fits.0.1, c.requires.count) in
    let is =
    reverted as_word s c.args.registers.now.memory c.put_back.new.registers.memory ps
    inside.process p c.put_back.new.process
    (seen_place as_word inside.place) inside.status within
    (get_or_default ps (inside.process - 1) c.index-processes-k.result p within)
    c.put_back.ensures.registers c.put_back.ensures.locals c.put_back.ensures.status in
    rw (sym c.undo.view_is) is

pub returns-clause-sized : goal.returns-clause-sized
returns-clause-sized g c =
    let as_word = g.K.Kind.as_word in
    let s = c.args.program.now in
    let shape = c.args.registers.now.shape in
    let ps = c.args.processes.now in
    let inside = c.undo.inside in
    let p = slice_index_or ps (inside.process - 1) c.index-processes-k.result in
    let fits = subst (λ (u : Overwritten). CanPut s shape u) (sym c.undo.view_is) c.requires.fits in
    let within : inside.process - 1 < length ps = omega (arith, fits.0.0, fits.0.1, c.requires.count) in
    let before = sized_at as_word s shape ps inside.process p within
    (get_or_default ps (inside.process - 1) c.index-processes-k.result p within) c.requires.sized in
    let after : AreSized s shape (seen_locals as_word s c.put_back.new.process) = rw c.put_back.ensures.locals
    (sized_back s shape (seen_place as_word inside.place) (seen_locals as_word s p) fits.1 before) in
    sized_set as_word s shape ps (inside.process - 1) c.put_back.new.process c.requires.sized after
