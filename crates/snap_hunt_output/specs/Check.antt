-- `run_in_input`: the run of an input of listing, schedule and commands, which is read as the debugger reads it.
use Rattle.std.specs.Prelude.{ℕ, List, Result, Ok}
use Rattle.snap_semantics.specs.declared.refusal.Refusal.{Refusal}
use Rattle.snap_semantics.specs.declared.refusal.Refusal.TheVariants as refusal
use Rattle.snap_semantics.specs.Answers.{◌>>=◌, refused_as}
use Rattle.snap_semantics.specs.Source.{Source}
use Rattle.snap_runs.specs.Run.{Run, run_over}
use Rattle.snap_debug_commands.specs.Commands.{commands_of}
use Rattle.snap_input.specs.Input.{parted}
use Rattle.snap_input.specs.Parts.{part, parts_of}
use Rattle.snap_input.specs.Schedules.{schedule_for}
use Rattle.snap_tasks.specs.declared.subject.Subject.TheVariants.{FirstPart}

-- the run of a listing over the schedule that a text is, where another text has commands
unfoldable pub run_under : Source → List ℕ → List ℕ → Result Run Refusal
run_under l schedule commands = do
  s ← schedule_for l schedule
  cs ← refused_as refusal.Commands (commands_of commands)
  Ok (run_over l s)

abbrev pub run_in_texts : Source → List (List ℕ) → Result Run Refusal
run_in_texts l texts = run_under l (part 0 texts) (part 1 texts)

-- the run of an input: a listing, a schedule and commands, parted by lines `%`
unfoldable pub run_in_input : List ℕ → Result Run Refusal
run_in_input input = parted FirstPart 2 (parts_of input) (λ l. run_in_texts l)
