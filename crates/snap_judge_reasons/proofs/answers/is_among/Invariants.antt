-- `is_among` of snap_judge_reasons (src/answers.rt): what its loop keeps.
use Rattle.std.proofs.Common.{◌≡◌, ℕ, List, take}
use Rattle.std.specs.List.{All}
use Rattle.snap_judge_reasons.proofs.answers.is_among.Given as goal

abbrev pub invariant-loop-view : goal.invariant-loop-view
invariant-loop-view l = All (λ (view : List ℕ). view ≡ l.values → ⊥) (take l.view-index l.views)
