-- What is written of a history that is not linearizable behind the event at which it fails: an order of what was before
-- that event, answers that would have been right there, and a circle of reasons.
use Rattle.std.specs.Prelude.{◌≡◌, ℕ, ◌-◌, List, [], ◌∷◌, ◌++◌, codes}
use Rattle.snap_judge.specs.History.{History}
use Rattle.snap_judge.specs.Judgement.{IsJudgement}
use Rattle.snap_judge.specs.Linearizable.{up_to}
use Rattle.snap_judge.specs.declared.judgements.Failing.{Failing}
use Rattle.snap_judge.specs.declared.judgements.Failing.TheVariants as failing
use Rattle.snap_judge.specs.declared.judgements.Judgement.{Judgement}
use Rattle.snap_judge.specs.declared.judgements.Judgement.TheVariants as judgement
use Rattle.snap_judge.specs.declared.operation.Operation.{Operation}
use Rattle.snap_history_text.specs.JudgementText.{operation_lines}
use Rattle.snap_judge_reasons.specs.FailureText.{failure_text}
use Rattle.snap_judge_reasons.specs.Reasons.{IsCircle}
use Rattle.snap_judge_reasons.specs.RightAnswers.{AreRightAnswers}
use Rattle.snap_judge_reasons.specs.declared.reason.Reason.{Reason}

-- an order of what was before an event, where it has operations
abbrev pub order_text : List Operation → List ℕ
order_text [] = []
order_text (o ∷ os) = codes "before it:\n" ++ operation_lines (o ∷ os)

-- the order that a judgement of what was before has; none is told where it has none
abbrev pub before_text : Judgement → List ℕ
before_text (judgement.Linearizable order) = order_text order.items
before_text (judgement.NotLinearizable k) = []
before_text (judgement.Undecided k) = []

-- Behind a text stands an order of what was before event k, by a judgement of that which is so.
abbrev pub WasBefore : (most : ℕ) → History → (k : ℕ) → (text longer : List ℕ) → Type 0
WasBefore most h k text longer =
    (j : Judgement) × IsJudgement most (up_to (k - 1) h) j × (longer ≡ text ++ before_text j)

-- Reasons are a circle, or there are none.
abbrev pub IsCircleOrNone : History → List Reason → Type 0
IsCircleOrNone h [] = Unit {0}
IsCircleOrNone h (r ∷ rs) = IsCircle h (r ∷ rs)

-- A text tells why a history fails at event k: by answers that would have been right, and a circle of reasons.
abbrev pub TellsWhy : History → (k : ℕ) → (text : List ℕ) → Type 0
TellsWhy h k text =
    (views : List (List ℕ)) × (rs : List Reason) × AreRightAnswers h k views × IsCircleOrNone (up_to k h) rs
    × (text ≡ failure_text views rs)

-- Behind a text stands what was before event k, and then why the history fails there.
abbrev pub Fails : (most : ℕ) → History → (k : ℕ) → (text longer : List ℕ) → Type 0
Fails most h k text longer =
    (before : List ℕ) × (why : List ℕ) × WasBefore most h k text before × TellsWhy h k why × (longer ≡ before ++ why)

-- what stands behind the text of a judgement, by where the history fails
abbrev pub IsMore : (most : ℕ) → History → Failing → (text longer : List ℕ) → Type 0
IsMore most h failing.Nowhere text longer = longer ≡ text
IsMore most h (failing.At k) text longer = Fails most h k text longer
IsMore most h (failing.Undecided k) text longer = longer ≡ text
