-- The line of a verdict on a history: that it is linearizable, the event at which it is not, or the one at which the
-- search for an order was given up.
use Rattle.std.specs.Prelude.{ℕ, List, [], ◌∷◌, ◌++◌, codes}
use Rattle.snap_judge.specs.History.{History}
use Rattle.snap_judge.specs.declared.judgements.Failing.{Failing}
use Rattle.snap_judge.specs.declared.judgements.Failing.TheVariants as failing
use Rattle.snap_history_text.specs.JudgementText.{not_linearizable_line, undecided_line}
use Rattle.snap_judge.specs.Linearizable.{last_of}

-- a verdict; no order is told
abbrev pub verdict_text : History → Failing → List ℕ
verdict_text h failing.Nowhere = codes "linearizable\n"
verdict_text h (failing.At count) = not_linearizable_line (last_of count h)
verdict_text h (failing.Undecided count) = undecided_line (last_of count h)

-- verdicts, a line each
abbrev pub verdict_lines : History → List Failing → List ℕ
verdict_lines h [] = []
verdict_lines h (j ∷ js) = verdict_text h j ++ verdict_lines h js
