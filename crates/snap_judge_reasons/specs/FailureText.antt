-- What is written of an answer at which a history fails: the answers that would have been right, and why no order
-- explains the one that was given.
use Rattle.std.specs.Prelude.{ℕ, List, [], ◌∷◌, ◌++◌, codes, decimal}
use Rattle.snap_semantics.specs.Report.{numbers_text}
use Rattle.snap_judge.specs.declared.operation.Action.{Action}
use Rattle.snap_judge.specs.declared.operation.Action.TheVariants as action
use Rattle.snap_judge.specs.declared.operation.Operation.{Operation}
use Rattle.snap_judge_reasons.specs.declared.reason.Grounds.{Grounds}
use Rattle.snap_judge_reasons.specs.declared.reason.Grounds.TheVariants as grounds
use Rattle.snap_judge_reasons.specs.declared.reason.Reason.{Reason}

-- what process i was asked for
abbrev pub asked_text : ℕ → Action → List ℕ
asked_text i (action.Sets word value) = codes "update " ++ decimal word ++ codes " " ++ decimal value
asked_text i (action.Sees view) = codes "scan of process " ++ decimal i

-- an operation, by what was asked for and the event of its call
abbrev pub operation_name : Operation → List ℕ
operation_name o = asked_text o.process o.action ++ codes " (event " ++ decimal o.call ++ codes ")"

-- the text that the first operation took place before the second one, on these grounds
abbrev pub grounds_text : Grounds → (first second : Operation) → List ℕ
grounds_text grounds.Ended first second =
    operation_name first ++ codes " ended before " ++ operation_name second ++ codes " was called"
grounds_text grounds.Saw first second = operation_name second ++ codes " saw " ++ operation_name first
grounds_text grounds.Missed first second = operation_name first ++ codes " did not see " ++ operation_name second
grounds_text (grounds.Unset word value) first second =
    operation_name first ++ codes " saw " ++ decimal value ++ codes " in word " ++ decimal word
    ++ codes ", but no update " ++ decimal word ++ codes " " ++ decimal value ++ codes " was called before it ended"

abbrev pub reason_line : Reason → List ℕ
reason_line r = codes "because: " ++ grounds_text r.grounds r.first r.second ++ codes "\n"

abbrev pub reason_lines : List Reason → List ℕ
reason_lines [] = []
reason_lines (r ∷ rs) = reason_line r ++ reason_lines rs

abbrev pub answer_line : List ℕ → List ℕ
answer_line view = codes "right answer:" ++ numbers_text view ++ codes "\n"

abbrev pub answer_lines : List (List ℕ) → List ℕ
answer_lines [] = []
answer_lines (view ∷ views) = answer_line view ++ answer_lines views

-- the lines of the answers, and then those of the reasons
abbrev pub failure_text : List (List ℕ) → List Reason → List ℕ
failure_text views reasons = answer_lines views ++ reason_lines reasons
