-- The word for a judgement of a run says what is so of the run.
use Rattle.std.proofs.Common.{ℕ}
use Rattle.snap_runs.specs.Run.{Run}
use Rattle.snap_judge.specs.History.{IsHistory}
use Rattle.snap_judge.specs.Linearizable.{LinearizableFromTheBeginning}
use Rattle.snap_judge.specs.declared.judgements.Failing.{Failing}
use Rattle.snap_judge.specs.declared.judgements.Failing.TheVariants as failing
use Rattle.snap_run_judge.specs.RunHistory.{history_of}
use Rattle.snap_run_judge.specs.RunJudgement.{IsLinearizabilityOf, IsRunJudgement, word_of}

pub word_is : LinearizableFromTheBeginning → (most : ℕ) (r : Run) (f : Failing) → IsHistory (history_of r) →
    IsRunJudgement most r f → IsLinearizabilityOf most r (word_of f)
word_is law most r failing.Nowhere is h = h
word_is law most r (failing.At k) is h = λ whole. h.fails (law (history_of r) k is whole)
word_is law most r (failing.Undecided k) is h = (k, h)
