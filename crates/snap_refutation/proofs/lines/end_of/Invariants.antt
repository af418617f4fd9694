-- `end_of` of snap_refutation (src/lines.rt): what its loop keeps.
use Rattle.std.proofs.Common.{ℕ, drop}
use Rattle.snap_refutation.specs.Refutations.{Leads}
use Rattle.snap_refutation.proofs.lines.end_of.Given as goal

-- what the rest of the way leads to, the whole way does
abbrev pub invariant-loop-place : goal.invariant-loop-place
invariant-loop-place l =
    (to : ℕ) → Leads l.lines l.at (drop l.place-index l.way) to → Leads l.lines l.from l.way to
