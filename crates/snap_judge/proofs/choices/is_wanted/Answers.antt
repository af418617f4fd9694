-- `is_wanted` of snap_judge (src/choices.rt).
use Rattle.std.proofs.Common.{◌<◌, length, arith}
use Rattle.snap_judge.proofs.Goes.{there}
use Rattle.snap_judge.proofs.choices.is_wanted.Goals as goal

pub sees_value-requires : goal.sees_value-requires
sees_value-requires c =
    let end = c.loop-place.invariant.end in let lt = c.loop-place-test.true in
    let within : c.loop-place.place < length c.args.config.now.slots.items = omega (arith, end, lt) in
    (c.requires.placed c.loop-place.place c.in-Open.call
    (there _ _ _ _ within c.index.ensures c.in-Open.is)).1
