-- `LiveRunsAreRunAgain`: the schedule that is printed of a live run, run again over the same listing, prints the same
-- report, byte for byte.
use Rattle.std.specs.Prelude.{◌≡◌, ℕ, ◌≤◌, List, [], ◌∷◌, ◌++◌, length, Ok, codes}
use Rattle.snap_semantics.specs.Schedule.{max_schedule}
use Rattle.snap_semantics.specs.Report.{position_line}
use Rattle.snap_semantics.specs.declared.process.Item.{Item}
use Rattle.snap_tasks.specs.declared.subject.Subject.{Subject}
use Rattle.snap_input.specs.Parts.{parts_of}
use Rattle.snap_output.specs.Perform.{perform_listing}
use Rattle.snap_live_output.specs.LiveOutput.{IsLiveText, Setup, setup_of}
use Rattle.snap_history_laws.specs.reruns.Printed.{before_report, report_in}

-- the reply to `run` at the end of so many items, and the report that the live run has printed
abbrev pub printed_again : ℕ → List ℕ → List ℕ
printed_again n text = codes "> run\n" ++ position_line n n ++ report_in text

-- What is performed of the listing and of what stands before the report, with the one command `run`, prints the same
-- report, if this is no longer than a schedule may be. It is one part of an input.
pub record IsRunAgain (g : Setup) (items : List Item) (text : List ℕ) : Type 0 where
  pub runs : length (before_report text) ≤ max_schedule →
      perform_listing g.source (before_report text) (codes "run\n") ≡ Ok (printed_again (length items) text)
  pub one_part : parts_of (before_report text) ≡ before_report text ∷ []

-- Each text that a live run may print is run again.
abbrev pub LiveRunsAreRunAgain : Type 0
LiveRunsAreRunAgain = (subject : Subject) (limit : ℕ) (input text : List ℕ) (g : Setup) →
    setup_of subject input ≡ Ok g → (live : IsLiveText g limit text) → IsRunAgain g live.items text
