-- `named_local` of snap_machine (src/machine.rt): the proof of what its contract says.
use Rattle.snap_asm_program.specs.Slot.{names_of}
use Rattle.snap_machine.specs.SeenContents.{seen_local}
use Rattle.snap_machine.proofs.Numbered.{few, numbered_there, numbered_without_name, numbered_without_value}
use Rattle.snap_machine.proofs.machine.named_local.Goals as goal

pub returns-in_err-name-clause-value : goal.returns-in_err-name-clause-value
returns-in_err-name-clause-value g c =
    rw c.from_residual.ensures
    (numbered_without_name g.K.Kind.as_word c.args.program.now c.args.process.now c.args.sort
    c.args.k c.in_err-name.ensures.name)

pub returns-in_err-value-clause-value : goal.returns-in_err-value-clause-value
returns-in_err-value-clause-value g c =
    rw c.from_residual-in_err-value.ensures
    (numbered_without_value g.K.Kind.as_word c.args.program.now c.args.process.now c.args.sort
    c.args.k c.in_err-value.ensures)

pub returns-clause-value : goal.returns-clause-value
returns-clause-value g c =
    numbered_there g.K.Kind.as_word c.args.program.now c.args.process.now c.args.sort c.args.k c.in_ok-name.name
    (seen_local g.K.Kind.as_word c.in_ok-value.value) c.in_ok-name.ensures.name c.in_ok-value.ensures

pub returns-clause-few : goal.returns-clause-few
returns-clause-few g c =
    few (names_of c.args.sort c.args.program.now) c.args.k c.in_ok-name.name
    c.in_ok-name.ensures.name c.in_ok-name.ensures.few
