-- `without_point` of snap_survey (src/scans.rt): what holds at the head of each of its loops.
use Rattle.std.proofs.Common.{◌≡◌, ◌+◌, ◌≤◌, drop}
use Rattle.snap_survey.specs.Survey.{without_point}
use Rattle.snap_survey.proofs.scans.without_point.Given as goal

-- the verdicts that were counted, and those that are left
abbrev pub invariant-loop-verdict : goal.invariant-loop-verdict
invariant-loop-verdict l =
    (l.missing + without_point (drop l.verdict-index l.verdicts) ≡ without_point l.verdicts)
    × (l.missing ≤ l.verdict-index)
