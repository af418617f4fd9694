-- `pass_call` of snap_judge (src/advance.rt).
use Rattle.std.proofs.Common.{◌≡◌, suc, ◌+◌, refl, arith}
use Rattle.snap_judge.proofs.Goes.{goes_on, there}
use Rattle.snap_judge.proofs.Passing.{call_passes}
use Rattle.snap_judge.proofs.advance.pass_call.Goals as goal

pub take_scans-requires : goal.take_scans-requires
take_scans-requires c =
    (call_passes c.args.steps.now c.args.order.now.items c.args.config.now _ c.args.place c.requires.next
    c.requires.place c.requires.config c.requires.is
    (let e : c.args.config.now.position + 1 ≡ suc c.args.config.now.position = omega arith in e) refl refl
    (there _ _ _ _ c.requires.place c.index.ensures c.in-Free.is)).config c.requires.config

pub returns-in_ok-take_scans-in-Free-clause-goes_on : goal.returns-in_ok-take_scans-in-Free-clause-goes_on
returns-in_ok-take_scans-in-Free-clause-goes_on c =
    goes_on c.args.steps.now _ _ _ _ _ _
    (call_passes c.args.steps.now c.args.order.now.items c.args.config.now _ c.args.place c.requires.next
    c.requires.place c.requires.config c.requires.is
    (let e : c.args.config.now.position + 1 ≡ suc c.args.config.now.position = omega arith in e) refl refl
    (there _ _ _ _ c.requires.place c.index.ensures c.in-Free.is))
    c.in_ok-take_scans-in-Free.ensures.goes_on
