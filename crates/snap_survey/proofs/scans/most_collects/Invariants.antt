-- `most_collects` of snap_survey (src/scans.rt): what holds at the head of each of its loops.
use Rattle.std.proofs.Common.{◌≡◌, max, drop}
use Rattle.snap_survey.specs.Survey.{most_collects}
use Rattle.snap_survey.proofs.scans.most_collects.Given as goal

-- the most of those so far and of those that are left
abbrev pub invariant-loop-verdict : goal.invariant-loop-verdict
invariant-loop-verdict l = max l.most (most_collects (drop l.verdict-index l.verdicts)) ≡ most_collects l.verdicts
