-- What is said of a run: whether its history is linearizable.
use Rattle.std.specs.Prelude.{ℕ}
use Rattle.snap_runs.specs.Run.{Run}
use Rattle.snap_judge.specs.Judgement.{IsFailing}
use Rattle.snap_judge.specs.Linearizable.{IsLinearizableHistory}
use Rattle.snap_judge.specs.declared.judgements.Failing.{Failing}
use Rattle.snap_judge.specs.declared.judgements.Failing.TheVariants as failing
use Rattle.snap_run_judge.specs.RunHistory.{history_of}
use Rattle.snap_judge.specs.declared.linearizability.Linearizability.{Linearizability}
use Rattle.snap_judge.specs.declared.linearizability.Linearizability.TheVariants as word

-- how many configurations a search meets at most, where nobody has asked for another bound
abbrev pub most_configurations : ℕ
most_configurations = 1000000

-- Where the history of a run is said to fail is so.
abbrev pub IsRunJudgement : (most : ℕ) → Run → Failing → Type 0
IsRunJudgement most r f = IsFailing most (history_of r) f

-- the word for what is said of where a history fails
abbrev pub word_of : Failing → Linearizability
word_of failing.Nowhere = word.Linearizable
word_of (failing.At k) = word.NotLinearizable
word_of (failing.Undecided k) = word.Undecided

-- A run is linearizable, or it is not; or there is an event up to which this is not decided.
abbrev pub IsLinearizabilityOf : (most : ℕ) → Run → Linearizability → Type 0
IsLinearizabilityOf most r word.Linearizable = IsLinearizableHistory (history_of r)
IsLinearizabilityOf most r word.NotLinearizable = IsLinearizableHistory (history_of r) → ⊥
IsLinearizabilityOf most r word.Undecided = (k : ℕ) × IsRunJudgement most r (failing.Undecided k)
