-- `find_local` of snap_machine (src/machine.rt): the proof of what its contract says.
use Rattle.std.proofs.Common.{◌∙◌}
use Rattle.snap_machine.proofs.Found.{value_found, value_missing}
use Rattle.snap_machine.proofs.machine.find_local.Goals as goal

pub returns-in_err-sort : goal.returns-in_err-sort
returns-in_err-sort g c =
    rw c.from_residual.ensures
    (value_missing g.K.Kind.as_word c.args.program.now c.args.process.now c.args.name
    c.in_err-sort.ensures.distinct c.in_err-sort.ensures.place)

pub returns : goal.returns
returns g c =
    c.local_there.ensures
    ∙ value_found g.K.Kind.as_word c.args.program.now c.args.process.now c.args.name c.in_ok-sort.sort c.in_ok-sort.k
    c.in_ok-sort.ensures.distinct c.in_ok-sort.ensures.place
