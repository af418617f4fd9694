-- A survey is made of what was noted of a run.
use Rattle.std.proofs.Common.{◌≡◌, ℕ, List, length}
use Rattle.snap_runs.specs.Audit.{audit}
use Rattle.snap_runs.specs.Run.{Run}
use Rattle.snap_runs.specs.Scan.{count}
use Rattle.snap_runs.specs.declared.verdict.Verdict.{Verdict}
use Rattle.snap_survey.specs.Survey.{is_open, most_collects, survey_of, without_point}
use Rattle.snap_walk.specs.Walk.{is_skipped}
use Rattle.snap_survey.specs.Tally.{tally_of}
use Rattle.snap_survey.specs.declared.findings.Survey.{Survey}
use Rattle.snap_survey.specs.declared.tally.Tally.{Tally}

-- a survey of what was counted, of verdicts, and of so many open operations and skipped items
abbrev pub survey_by : Tally → List Verdict → (opened skipped : ℕ) → Survey
survey_by a vs opened skipped = record {
  scans_called = a.scans_called;
  scans_answered = length vs;
  scans_without_point = without_point vs;
  most_collects = most_collects vs;
  updates_called = a.updates_called;
  updates_done = a.updates_done;
  open_operations = opened;
  traps = a.traps;
  first_trap = a.first_trap;
  crashes = a.crashes;
  skips = skipped;
  first_skip = a.first_skip;
}

-- where these are those of a run, it is what the run came to
pub survey_made : (r : Run) (a : Tally) (vs : List Verdict) (opened skipped : ℕ) → a ≡ tally_of r (length r.items) →
    vs ≡ audit r → opened ≡ count (is_open r) 0 r.shape.n → skipped ≡ count (is_skipped r) 0 (length r.items) →
    survey_by a vs opened skipped ≡ survey_of r
survey_made r a vs opened skipped counted judged is skips = rw (counted, judged, is, skips)
