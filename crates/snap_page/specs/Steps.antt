-- How many steps lead a process to a line, or to the end of its operation, from a position of a run that a page in a
-- browser asks about (`steps_asked`); and the code and the text that the page is handed.
use Rattle.std.specs.Prelude.{ℕ, List, [], codes, decimal, Result, Ok, Err}
use Rattle.snap_semantics.specs.Answers.{◌>>=◌, refused_as}
use Rattle.snap_semantics.specs.Listing.{listing_of}
use Rattle.snap_semantics.specs.Source.{Source}
use Rattle.snap_semantics.specs.declared.refusal.Refusal.{Refusal}
use Rattle.snap_semantics.specs.declared.refusal.Refusal.TheVariants as refusal
use Rattle.snap_runs.specs.Run.{run_over}
use Rattle.snap_input.specs.Schedules.{schedule_for}
use Rattle.snap_debug_commands.specs.declared.command.Command.TheVariants.{Goto}
use Rattle.snap_debug.specs.Session.{Session, commanded, opened}
use Rattle.snap_prompt.specs.Reach.{steps_to}
use Rattle.snap_prompt.specs.declared.goal.Goal.{Goal}
use Rattle.snap_prompt.specs.declared.goal.NoSteps.{NoSteps}
use Rattle.snap_prompt.specs.declared.goal.NoSteps.TheVariants as none
use Rattle.snap_faults.specs.RefusalText.{refusal_line}
use Rattle.snap_page.specs.Page.{numbered_line}

-- the session over a listing's run under a schedule's text, at a position
abbrev pub session_at : Source → List ℕ → ℕ → Result Session Refusal
session_at l schedule at = do
  s ← schedule_for l schedule
  refused_as refusal.Commands (commanded (opened (run_over l s)) (Goto at))

-- how many steps lead a process of a listing's run from a position to a goal, or why none do
abbrev pub steps_of : Source → List ℕ → (at i : ℕ) → Goal → Result (Result ℕ NoSteps) Refusal
steps_of l schedule at i g = session_at l schedule at >>= λ s. Ok (steps_to s i g)

-- the same of a listing's text
abbrev pub steps_asked : (listing schedule : List ℕ) → (at i : ℕ) → Goal → Result (Result ℕ NoSteps) Refusal
steps_asked listing schedule at i g =
    refused_as refusal.Listing (listing_of listing) >>= λ l. steps_of l schedule at i g

-- why no steps lead there
abbrev pub no_steps_words : NoSteps → List ℕ
no_steps_words none.NoSuchProcess = codes "there is no such process"
no_steps_words none.NoSuchLine = codes "there is no such line"
no_steps_words none.Idle = codes "the process is idle"
no_steps_words none.Trapped = codes "the process is trapped"
no_steps_words none.Crashed = codes "the process has crashed"
no_steps_words none.Full = codes "the schedule is full"

-- 0 with a number of steps, 1 with a refusal
abbrev pub steps_code : Result (Result ℕ NoSteps) Refusal → ℕ
steps_code (Ok (Ok k)) = 0
steps_code (Ok (Err why)) = 1
steps_code (Err r) = 1

-- the number of steps in digits, or the line that says why there is none
abbrev pub steps_text : Result (Result ℕ NoSteps) Refusal → List ℕ
steps_text (Ok (Ok k)) = decimal k
steps_text (Ok (Err why)) = numbered_line (no_steps_words why) []
steps_text (Err r) = refusal_line r
