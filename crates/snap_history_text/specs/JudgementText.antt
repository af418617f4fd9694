-- What is written of a judgement: an order of the operations that explains the history, or the event at which no order
-- does any more, or at which the search for one was given up.
use Rattle.std.specs.Prelude.{ℕ, List, [], ◌∷◌, ◌++◌, Option, Some, None, codes, decimal}
use Rattle.snap_semantics.specs.declared.event.Event.{Event}
use Rattle.snap_semantics.specs.Report.{numbers_text}
use Rattle.snap_judge.specs.History.{History}
use Rattle.snap_judge.specs.Linearizable.{last_of}
use Rattle.snap_judge.specs.declared.judgements.Judgement.{Judgement}
use Rattle.snap_judge.specs.declared.judgements.Judgement.TheVariants as judgement
use Rattle.snap_judge.specs.declared.operation.Action.{Action}
use Rattle.snap_judge.specs.declared.operation.Action.TheVariants as action
use Rattle.snap_judge.specs.declared.operation.Operation.{Operation}

-- what an operation did
abbrev pub action_text : Action → List ℕ
action_text (action.Sets word value) = codes "update " ++ decimal word ++ codes " " ++ decimal value
action_text (action.Sees view) = codes "scan" ++ numbers_text view.now

-- when it ended, where it has
abbrev pub end_text : Option ℕ → List ℕ
end_text (Some t) = codes " end " ++ decimal t
end_text None = codes " open"

-- the line of an operation
abbrev pub operation_line : Operation → List ℕ
operation_line o =
    action_text o.action ++ codes " process " ++ decimal o.process ++ codes " call " ++ decimal o.call
    ++ end_text o.end ++ codes "\n"

abbrev pub operation_lines : List Operation → List ℕ
operation_lines [] = []
operation_lines (o ∷ os) = operation_line o ++ operation_lines os

-- an order that explains the history
abbrev pub linearizable_text : List Operation → List ℕ
linearizable_text os = codes "linearizable\n" ++ operation_lines os

-- an event, after a verdict on it
abbrev pub verdict_line : List ℕ → Event → List ℕ
verdict_line verdict e =
    verdict ++ codes ": event " ++ decimal e.item ++ codes " process " ++ decimal e.process ++ codes "\n"

-- the first event with which no order explains the history
abbrev pub not_linearizable_line : Event → List ℕ
not_linearizable_line e = verdict_line (codes "not linearizable") e

-- the event at which the search was given up
abbrev pub undecided_line : Event → List ℕ
undecided_line e = verdict_line (codes "undecided") e

-- what is written of a judgement of a history
abbrev pub judgement_text : History → Judgement → List ℕ
judgement_text h (judgement.Linearizable order) = linearizable_text order.items
judgement_text h (judgement.NotLinearizable count) = not_linearizable_line (last_of count h)
judgement_text h (judgement.Undecided count) = undecided_line (last_of count h)
