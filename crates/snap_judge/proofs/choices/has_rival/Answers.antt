-- `has_rival` of snap_judge (src/choices.rt).
use Rattle.std.proofs.Common.{◌<◌, length, arith}
use Rattle.snap_judge.proofs.Goes.{kept_open_within, there}
use Rattle.snap_judge.proofs.choices.has_rival.Goals as goal

pub sets_word-requires : goal.sets_word-requires
sets_word-requires c =
    let end = c.loop-other.invariant.end in let lt = c.loop-other-test.true in
    let within : c.loop-other.other < length c.args.config.now.slots.items = omega (arith, end, lt) in
    (c.requires.placed c.loop-other.other c.in-Open.call
    (there _ _ _ _ within c.index.ensures c.in-Open.is)).1

pub returns : goal.returns
returns c now q j value is act =
    let end = c.loop-other.invariant.end in let past = c.loop-other-test.false in
    let lt = kept_open_within c.args.config.now.slots.items q j is in
    c.loop-other.invariant.alone q j value (omega (arith, end, past, lt)) is act
