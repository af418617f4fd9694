-- `summary_of`: in how many of many surveyed runs a scan was answered, a scan has no point, a process trapped, and so
-- on; and how many are linearizable, are not, and are undecided.
use Rattle.std.specs.Prelude.{ℕ, suc, ◌+◌, ◌<◌, Bool, List, [], ◌∷◌, length, max, nat_lt, if◌then◌else◌}
use Rattle.snap_survey.specs.Words.{is_linearizable, is_not_linearizable, is_undecided}
use Rattle.snap_survey.specs.declared.findings.JudgedSurvey.{JudgedSurvey}
use Rattle.snap_survey.specs.declared.summary.Summary.{Summary}

-- how many surveys pass a test
abbrev pub how_many : (JudgedSurvey → Bool) → List JudgedSurvey → ℕ
how_many test [] = 0
how_many test (s ∷ ss) = if test s then suc (how_many test ss) else how_many test ss

-- the most double collects of a scan of any of the runs
abbrev pub most_of : List JudgedSurvey → ℕ
most_of [] = 0
most_of (s ∷ ss) = max s.survey.most_collects (most_of ss)

-- the runs of these surveys, and in how many of them a scan was answered, an answered scan has no point, and so on
abbrev pub summary_of : List JudgedSurvey → Summary
summary_of ss = record {
  schedules = length ss;
  answering = how_many (λ s. nat_lt 0 s.survey.scans_answered) ss;
  without_point = how_many (λ s. nat_lt 0 s.survey.scans_without_point) ss;
  most_collects = most_of ss;
  updating = how_many (λ s. nat_lt 0 s.survey.updates_done) ss;
  unfinished = how_many (λ s. nat_lt 0 s.survey.open_operations) ss;
  trapping = how_many (λ s. nat_lt 0 s.survey.traps) ss;
  crashing = how_many (λ s. nat_lt 0 s.survey.crashes) ss;
  skipping = how_many (λ s. nat_lt 0 s.survey.skips) ss;
  linearizable = how_many (λ s. is_linearizable s.linearizability) ss;
  not_linearizable = how_many (λ s. is_not_linearizable s.linearizability) ss;
  undecided = how_many (λ s. is_undecided s.linearizability) ss;
}

-- the summary of no run
abbrev pub no_runs : Summary
no_runs = record {
  schedules = 0;
  answering = 0;
  without_point = 0;
  most_collects = 0;
  updating = 0;
  unfinished = 0;
  trapping = 0;
  crashing = 0;
  skipping = 0;
  linearizable = 0;
  not_linearizable = 0;
  undecided = 0;
}

-- one more where a number is not 0
abbrev pub counted : ℕ → ℕ → ℕ
counted k x = if nat_lt 0 x then k + 1 else k

-- one more where a test passes
abbrev pub counted_if : ℕ → Bool → ℕ
counted_if k b = if b then k + 1 else k

-- a summary with one run more
abbrev pub with_survey : Summary → JudgedSurvey → Summary
with_survey m s = record {
  schedules = m.schedules + 1;
  answering = counted m.answering s.survey.scans_answered;
  without_point = counted m.without_point s.survey.scans_without_point;
  most_collects = max s.survey.most_collects m.most_collects;
  updating = counted m.updating s.survey.updates_done;
  unfinished = counted m.unfinished s.survey.open_operations;
  trapping = counted m.trapping s.survey.traps;
  crashing = counted m.crashing s.survey.crashes;
  skipping = counted m.skipping s.survey.skips;
  linearizable = counted_if m.linearizable (is_linearizable s.linearizability);
  not_linearizable = counted_if m.not_linearizable (is_not_linearizable s.linearizability);
  undecided = counted_if m.undecided (is_undecided s.linearizability);
}

-- each number of runs is less than this
pub record AreFewer (m : Summary) (k : ℕ) : Type 0 where
  pub answering : m.answering < k
  pub without_point : m.without_point < k
  pub updating : m.updating < k
  pub unfinished : m.unfinished < k
  pub trapping : m.trapping < k
  pub crashing : m.crashing < k
  pub skipping : m.skipping < k
  pub linearizable : m.linearizable < k
  pub not_linearizable : m.not_linearizable < k
  pub undecided : m.undecided < k
