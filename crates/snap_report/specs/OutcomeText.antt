-- The printed texts of an item's outcome (`outcome_text`), and of where each process stands (`head_lines`).
use Rattle.std.specs.Prelude.{ℕ, ◌+◌, List, [], ◌∷◌, ◌++◌, codes}
use Rattle.snap_semantics.specs.declared.process.Outcome.{Outcome}
use Rattle.snap_semantics.specs.declared.process.Outcome.TheVariants as outcome
use Rattle.snap_semantics.specs.declared.process.Reason.{Reason}
use Rattle.snap_semantics.specs.declared.process.Reason.TheVariants as reason
use Rattle.snap_semantics.specs.Report.{cause_text, head_line, numbers_text}
use Rattle.snap_semantics.specs.State.{Process}

abbrev pub reason_text : Reason → List ℕ
reason_text reason.Trapped = codes "Trapped"
reason_text reason.Crashed = codes "Crashed"
reason_text reason.Busy = codes "Busy"
reason_text reason.Idle = codes "Idle"
reason_text reason.NoSuchWord = codes "NoSuchWord"
reason_text reason.NotOwner = codes "NotOwner"

-- what came of an item
abbrev pub outcome_text : Outcome → List ℕ
outcome_text outcome.Called = codes "called"
outcome_text outcome.Stepped = codes "stepped"
outcome_text (outcome.Answered view) = codes "answered" ++ numbers_text view
outcome_text outcome.Finished = codes "finished"
outcome_text (outcome.Trapped cause) = codes "trapped " ++ cause_text cause
outcome_text outcome.Crashed = codes "crashed"
outcome_text (outcome.Skipped reason) = codes "skipped " ++ reason_text reason

-- where processes stand, the first of which is process i
abbrev pub head_lines : ℕ → List Process → List ℕ
head_lines i [] = []
head_lines i (p ∷ ps) = head_line i p.status ++ head_lines (i + 1) ps
