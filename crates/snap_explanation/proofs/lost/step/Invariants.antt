-- `step` of snap_explanation (src/lost.rt): what holds at the head of each of its loops.
use Rattle.std.proofs.Common.{◌≡◌, length}
use Rattle.snap_text.specs.Tokens.{view_token}
use Rattle.snap_explanation.specs.Lost.{step}
use Rattle.snap_explanation.proofs.lost.step.Given as goal

-- what was passed over is nothing
abbrev pub invariant-loop-rest : goal.invariant-loop-rest
invariant-loop-rest l = step l.places (view_token l.token) l.rest ≡ step l.places (view_token l.token) l.parts

abbrev pub decreases-loop-rest : goal.decreases-loop-rest
decreases-loop-rest l = length l.rest
