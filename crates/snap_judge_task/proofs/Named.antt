-- A judgement of a history names an event of it; and what stands behind a text is an order of what was before.
use Rattle.std.proofs.Common.{◌≡◌, ℕ, ◌-◌, List, ◌++◌}
use Rattle.snap_judge.specs.History.{History}
use Rattle.snap_judge.specs.Judgement.{IsJudgement, NamesEvent, failing_of}
use Rattle.snap_judge.specs.Linearizable.{up_to}
use Rattle.snap_judge.specs.declared.judgements.Judgement.{Judgement}
use Rattle.snap_judge.proofs.Judging.{fails_so, names_event}
use Rattle.snap_judge_task.specs.Failing.{WasBefore, before_text}

pub event_named : (most : ℕ) (h : History) (j : Judgement) → IsJudgement most h j → NamesEvent h (failing_of j)
event_named most h j is = names_event most h (failing_of j) (fails_so most h j is)

pub was_before : (most : ℕ) (h : History) (k : ℕ) (j : Judgement) (text longer : List ℕ) →
    IsJudgement most (up_to (k - 1) h) j → longer ≡ text ++ before_text j → WasBefore most h k text longer
was_before most h k j text longer is there = (j, is, there)
