-- `Record::apply_first` of snap_record (src/record.rt): the proof of what its contract says.
use Rattle.std.proofs.Common.{◌<◌, arith}
use Rattle.snap_record.proofs.Doing.{all_done, one_done}
use Rattle.snap_record.proofs.record.Record.apply_first.Goals as goal

pub returns-in_default-clause-done : goal.returns-in_default-clause-done
returns-in_default-clause-done g c =
    all_done c.args.self.now c.args.items.now c.args.count c.loop-k.k c.loop-k.self c.loop-k.left
    c.loop-k.invariant c.in_default.ensures.steps.0

pub loop-k-preserved-in_ok-_outcome : goal.loop-k-preserved-in_ok-_outcome
loop-k-preserved-in_ok-_outcome g c =
    let test = c.loop-k-test.true in
    let lt : c.loop-k.k < c.args.count = omega (arith, test) in
    one_done c.args.self.now c.args.items.now c.args.count c.loop-k.k c.loop-k.self c.add.new.self c.loop-k.left
    c.next.new.self c.in-Some.item
    c.loop-k.invariant lt c.in-Some.ensures.steps c.in_ok-_outcome.ensures.done.0

pub loop-k-preserved : goal.loop-k-preserved
loop-k-preserved g c =
    let test = c.loop-k-test.true in
    let lt : c.loop-k.k < c.args.count = omega (arith, test) in
    one_done c.args.self.now c.args.items.now c.args.count c.loop-k.k c.loop-k.self c.add.new.self c.loop-k.left
    c.next.new.self c.in-Some.item
    c.loop-k.invariant lt c.in-Some.ensures.steps c.in_ok-_outcome.ensures.done.0
