-- `decision` of snap_judge (src/judgements.rt).
use Rattle.std.proofs.Common.{rules, ◌≤◌, length}
use Rattle.snap_judge.proofs.Judging.{up_to_whole}
use Rattle.snap_judge.proofs.judgements.decision.Goals as goal

pub returns : goal.returns
returns c =
    let h = c.args.history.now in
    let few : length h.events ≤ c.len.result = search rules in
    rw (up_to_whole c.len.result h few) at c.decide.ensures
