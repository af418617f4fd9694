-- `decide` of snap_judge (src/decisions.rt).
use Rattle.std.proofs.Common.{IfOk, map, subst, sym}
use Rattle.snap_judge.specs.Judgement.{IsDecision}
use Rattle.snap_judge.specs.Nodes.{HasFound}
use Rattle.snap_judge.specs.Kept.{called_at}
use Rattle.snap_judge.specs.Linearizable.{up_to}
use Rattle.snap_judge.proofs.KeptSteps.{history_up_to}
use Rattle.snap_judge.proofs.Judging.{explained_decides, undecided_decides, unexplained_decides}
use Rattle.snap_judge.proofs.decisions.decide.Goals as goal
use Rattle.snap_judge.proofs.decisions.decide.Goals.{in-Explained, in-Unexplained, in-Undecided}

pub returns : goal.returns
returns c =
    let h = up_to c.args.count c.args.history.now in
    let is = history_up_to c.args.history.now c.args.count c.requires.history in
    let steps = c.in_ok-found.field-0-0.items in
    elim c.match-found.branch [
      | in-Explained w ↦ rw w.result-is (
        map (called_at steps) w.in-Explained.field-0.items,
        explained_decides c.args.most h steps w.in-Explained.field-0 is
            (subst (HasFound c.args.most h steps) w.in-Explained.is c.in_ok-found.ensures),
      )
      | in-Unexplained w ↦ rw w.result-is (unexplained_decides c.args.most w.in-Unexplained.field-0 h steps is
          (subst (HasFound c.args.most h steps) w.in-Unexplained.is c.in_ok-found.ensures))
      | in-Undecided w ↦ rw w.result-is (undecided_decides c.args.most h steps
          (subst (HasFound c.args.most h steps) w.in-Undecided.is c.in_ok-found.ensures))
    ]
