-- What is printed of a live run, run again: it is a schedule and a report (`LiveRunsAreCut`), and the run over that
-- schedule is the same (`LiveRunsAreReadAgain`).
use Rattle.std.specs.Prelude.{◌≡◌, ℕ, ◌≤◌, List, ◌++◌, length, Ok}
use Rattle.snap_semantics.specs.Schedule.{Schedule, max_schedule, schedule_of}
use Rattle.snap_semantics.specs.ScheduleText.{IsSchedule, schedule_text}
use Rattle.snap_semantics.specs.declared.process.Item.{Item}
use Rattle.snap_report.specs.RunReport.{report_at}
use Rattle.snap_runs.specs.Run.{run_over}
use Rattle.snap_tasks.specs.declared.subject.Subject.{Subject}
use Rattle.snap_live_output.specs.LiveOutput.{IsLiveText, Setup, setup_of}
use Rattle.snap_history_laws.specs.reruns.Printed.{before_report, report_in}

-- the schedule of these items, in the shape that was played
abbrev pub played : Setup → List Item → Schedule
played g items = record { shape = g.scripts.shape; items = items }

-- A text is printed of a run of these items. It has all of the run: the schedule, and behind it the report of its end.
pub record IsCut (g : Setup) (items : List Item) (text : List ℕ) : Type 0 where
  pub is_schedule : IsSchedule (played g items)
  pub schedule : before_report text ≡ schedule_text (played g items)
  pub report : report_in text ≡ report_at (run_over g.source (played g items)) (length items)
  pub whole : text ≡ before_report text ++ report_in text

-- What stands before the report, if it is no longer than a schedule may be, is read as the items of the live run, and
-- as nothing else: the run over them is the same, and so is its report. It is no longer where
-- there are at most 80,000 items.
pub record IsReadAgain (g : Setup) (items : List Item) (text : List ℕ) : Type 0 where
  pub reads : length (before_report text) ≤ max_schedule → schedule_of (before_report text) ≡ Ok (played g items)
  pub no_other : (s : Schedule) → schedule_of (before_report text) ≡ Ok s → s ≡ played g items
  pub short : length items ≤ 80000 → length (before_report text) ≤ max_schedule
  pub reports : (s : Schedule) → schedule_of (before_report text) ≡ Ok s →
      report_at (run_over g.source s) (length s.items) ≡ report_in text

-- Each text that a live run may print is cut.
abbrev pub LiveRunsAreCut : Type 0
LiveRunsAreCut = (subject : Subject) (limit : ℕ) (input text : List ℕ) (g : Setup) → setup_of subject input ≡ Ok g →
    (live : IsLiveText g limit text) → IsCut g live.items text

abbrev pub LiveRunsAreReadAgain : Type 0
LiveRunsAreReadAgain = (subject : Subject) (limit : ℕ) (input text : List ℕ) (g : Setup) →
    setup_of subject input ≡ Ok g → (live : IsLiveText g limit text) → IsReadAgain g live.items text
