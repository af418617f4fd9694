-- `search` of snap_judge (src/search.rt).
use Rattle.std.proofs.Common.{arith}
use Rattle.snap_judge.proofs.Meeting.{search_meets}
use Rattle.snap_judge.proofs.Searching.{explains_all}
use Rattle.snap_judge.proofs.search.search.Goals as goal

pub returns-then-entered : goal.returns-then-entered
returns-then-entered c =
    explains_all c.args.processes c.args.words c.loop.trail.processes c.loop.trail.words c.args.steps.now
    c.loop.trail.order.items c.loop.entered c.loop.invariant.processes c.loop.invariant.words
    c.loop.invariant.at.entered c.if-entered.true

pub returns : goal.returns
returns c =
    search_meets c.args.most c.args.processes c.args.words c.args.steps.now c.loop.trail c.loop.entered
    c.loop.invariant.processes c.loop.invariant.words c.requires.numbered c.loop.invariant.trail c.loop.invariant.at
    c.if-entered-2.false
    (let count = c.loop.invariant.count in let past = c.loop-test.false in omega (arith, count, past))

pub returns-then-entered-2 : goal.returns-then-entered-2
returns-then-entered-2 c =
    explains_all c.args.processes c.args.words c.loop.trail.processes c.loop.trail.words c.args.steps.now
    c.loop.trail.order.items c.loop.entered c.loop.invariant.processes c.loop.invariant.words
    c.loop.invariant.at.entered c.if-entered-2.true

pub returns-in_default-2 : goal.returns-in_default-2
returns-in_default-2 c =
    rw (c.loop.invariant.processes, c.loop.invariant.words) at (rw c.in_default-2.is at c.in_ok-next.ensures.none)
