-- `failure` of snap_judge (src/judgements.rt).
use Rattle.std.proofs.Common.{arith, subst}
use Rattle.snap_judge.specs.Judgement.{IsDecision}
use Rattle.snap_judge.specs.Linearizable.{up_to}
use Rattle.snap_judge.proofs.judgements.failure.Goals as goal

pub loop-holds-preserved : goal.loop-holds-preserved
loop-holds-preserved c =
    let h = c.args.history.now in
    let more = c.next_count-count.ensures.more in
    let fewer = c.next_count-count.ensures.fewer in
    let within = c.loop-holds.invariant.within in
    record {
      order = more;
      within = omega (arith, fewer, within);
      holds = c.loop-holds.invariant.holds;
      fails = subst (IsDecision c.args.most (up_to c.next_count-count.result h)) c.in-NotLinearizable.is
          c.in_ok-decide.ensures;
    }
