-- `push_chain` of snap_why (src/answer.rt): the proof of what its contract says.
use Rattle.std.proofs.Common.{arith}
use Rattle.snap_why.proofs.Chains.{ends, goes_on, lender_within}
use Rattle.snap_why.proofs.answer.push_chain.Goals as goal

pub loop-left-preserved : goal.loop-left-preserved
loop-left-preserved c = (
  λ well.
      let added = c.push_view.ensures well in
      let held = c.loop-left.invariant.0 added.0 in (
        held.0,
        goes_on c.args.steps.now c.loop-left.next c.in-Some.scan c.loop-left.left c.loop-left.out.text
            c.push_view.new.out.text _ c.view_taken-view.result
            c.lender_of-next.result (omega (arith, c.loop-left-test.true)) c.in-Some.is
            c.view_taken-view.ensures.view c.lender_of-next.ensures added.1 held.1,
      ),
  lender_within c.view_taken-view.result c.lender_of-next.result _ c.lender_of-next.ensures
      c.view_taken-view.ensures.within,
)

pub returns-in_default : goal.returns-in_default
returns-in_default c = λ well.
    let held = c.loop-left.invariant.0 well in (
      held.0,
      ends c.args.steps.now c.loop-left.next c.loop-left.left c.loop-left.out.text _ c.in_default.is held.1,
    )
