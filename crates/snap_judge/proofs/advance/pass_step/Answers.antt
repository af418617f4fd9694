-- `pass_step` of snap_judge (src/advance.rt).
use Rattle.std.proofs.Common.{◌≡◌, suc, ◌+◌, refl, arith}
use Rattle.snap_judge.proofs.Passing.{wait_passes}
use Rattle.snap_judge.proofs.advance.pass_step.Goals as goal

pub returns-in-Waits-clause-goes_on : goal.returns-in-Waits-clause-goes_on
returns-in-Waits-clause-goes_on c =
    wait_passes c.args.steps.now c.args.order.now.items c.args.config.now _ c.requires.next c.requires.config
    c.in-Waits.is
    (let e : c.args.config.now.position + 1 ≡ suc c.args.config.now.position = omega arith in e) refl refl
