-- `values_trouble` of snap_why (src/conditions.rt): the proof of what its contract says.
use Rattle.std.proofs.Common.{◌∙◌, arith}
use Rattle.snap_why.proofs.Places.{value_found}
use Rattle.snap_why.proofs.conditions.values_trouble.Goals as goal

pub returns-in-Some : goal.returns-in-Some
returns-in-Some g c =
    let m = c.args.machine.now in
    value_found m.shape m.state c.args.taker c.at.result c.args.expr.now c.args.condition.now c.loop-left.place
    c.loop-left.left c.in-Some.trouble
    c.value_trouble-found.result (omega (arith, c.loop-left-test.true)) c.at.ensures
    c.value_trouble-found.ensures c.in-Some.is
    ∙ c.loop-left.invariant.0
