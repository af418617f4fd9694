-- What is said of a history: that it is linearizable, or up to which event it is not.
use Rattle.std.specs.Prelude.{ℕ, ◌-◌, ⊤, length, map}
use Rattle.snap_words.specs.Shape.{IsOneOf}
use Rattle.snap_judge.specs.declared.linearizability.Linearizability.{Linearizability}
use Rattle.snap_judge.specs.declared.linearizability.Linearizability.TheVariants as decision
use Rattle.snap_judge.specs.declared.judgements.Failing.{Failing}
use Rattle.snap_judge.specs.declared.judgements.Failing.TheVariants as failing
use Rattle.snap_judge.specs.declared.judgements.Judgement.{Judgement}
use Rattle.snap_judge.specs.declared.judgements.Judgement.TheVariants as judgement
use Rattle.snap_judge.specs.History.{History}
use Rattle.snap_judge.specs.Linearizable.{IsLinearizationOf, IsLinearizableHistory, up_to}
use Rattle.snap_judge.specs.Configurations.{beginning, MeetsMoreThan}
use Rattle.snap_judge.specs.Kept.{operation_of}

-- What is decided of a history is so; it is left open only where there are more than `most` configurations to choose at.
abbrev pub IsDecision : (most : ℕ) → History → Linearizability → Type 0
IsDecision most h decision.Linearizable = IsLinearizableHistory h
IsDecision most h decision.NotLinearizable = IsLinearizableHistory h → ⊥
IsDecision most h decision.Undecided = MeetsMoreThan most (beginning h)

-- Up to its event number k, counted from 1, the history is not linearizable; up to the event before it is.
pub record FailsAt (h : History) (k : ℕ) : Type 0 where
  pub is_event : IsOneOf (length h.events) k
  pub before : IsLinearizableHistory (up_to (k - 1) h)
  pub fails : IsLinearizableHistory (up_to k h) → ⊥

-- Where a history is said to fail is so: the history is linearizable; or it fails at that event; or up to that event,
-- which is one of it, more than `most` configurations can be met at which something has to be chosen.
abbrev pub IsFailing : (most : ℕ) → History → Failing → Type 0
IsFailing most h failing.Nowhere = IsLinearizableHistory h
IsFailing most h (failing.At k) = FailsAt h k
IsFailing most h (failing.Undecided k) = IsOneOf (length h.events) k × MeetsMoreThan most (beginning (up_to k h))

-- where a history fails by this judgement
abbrev pub failing_of : Judgement → Failing
failing_of (judgement.Linearizable order) = failing.Nowhere
failing_of (judgement.NotLinearizable k) = failing.At k
failing_of (judgement.Undecided k) = failing.Undecided k

-- A judgement of a history is so: its order is a linearization of the history, or what it says of an event is so.
abbrev pub IsJudgement : (most : ℕ) → History → Judgement → Type 0
IsJudgement most h (judgement.Linearizable order) = IsLinearizationOf h (map operation_of order.items)
IsJudgement most h (judgement.NotLinearizable k) = IsFailing most h (failing.At k)
IsJudgement most h (judgement.Undecided k) = IsFailing most h (failing.Undecided k)

-- The event that is named, if one is, is one of the history; events count from 1.
abbrev pub NamesEvent : History → Failing → Type 0
NamesEvent h failing.Nowhere = ⊤
NamesEvent h (failing.At k) = IsOneOf (length h.events) k
NamesEvent h (failing.Undecided k) = IsOneOf (length h.events) k
