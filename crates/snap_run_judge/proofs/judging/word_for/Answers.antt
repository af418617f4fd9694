-- `word_for` of snap_run_judge (src/judging.rt): the proof of what its contract says.
use Rattle.std.proofs.Common.{subst, sym}
use Rattle.snap_run_judge.specs.RunJudgement.{IsLinearizabilityOf}
use Rattle.snap_run_judge.proofs.Words.{word_is}
use Rattle.snap_run_judge.proofs.judging.word_for.Goals as goal

pub returns-clause-so : goal.returns-clause-so
returns-clause-so g c =
    let r = c.args.history.now in
    subst (IsLinearizabilityOf c.args.most r) (sym c.word_of.ensures)
    (word_is c.linearizable_from_the_beginning.ensures c.args.most r c.args.failing c.has_history.ensures
    c.requires)
