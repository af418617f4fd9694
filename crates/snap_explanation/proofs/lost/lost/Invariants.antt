-- `lost` of snap_explanation (src/lost.rt): what holds at the head of each of its loops.
use Rattle.std.proofs.Common.{◌≡◌, ◌≤◌, ◌-◌, length, drop}
use Rattle.snap_explanation.specs.Lost.{lost}
use Rattle.snap_explanation.specs.Steps.{placed_tokens, view_wanted}
use Rattle.snap_explanation.proofs.lost.lost.Given as goal

-- the line goes on with the tokens so far
abbrev pub invariant-loop-before : goal.invariant-loop-before
invariant-loop-before l =
    (l.before ≤ length l.tokens) × (lost l.before (view_wanted l.wanted) (placed_tokens (drop l.before l.tokens))
    ≡ lost 0 (view_wanted l.fn.wanted) (placed_tokens l.tokens))

abbrev pub decreases-loop-before : goal.decreases-loop-before
decreases-loop-before l = length l.tokens - l.before
