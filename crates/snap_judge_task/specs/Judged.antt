-- `judged`: the history that an input gives to be judged, that of a listing's run or the one that the input is, or the
-- first reason why it gives none.
use Rattle.std.specs.Prelude.{ℕ, List, length, nat_lt, Option, Some, None, Result, Ok, Err, if◌then◌else◌}
use Rattle.snap_semantics.specs.Answers.{◌>>=◌, refused_as}
use Rattle.snap_semantics.specs.Source.{Source}
use Rattle.snap_semantics.specs.declared.refusal.Refusal.{Refusal}
use Rattle.snap_semantics.specs.declared.refusal.Refusal.TheVariants as refusal
use Rattle.snap_runs.specs.Run.{run_over}
use Rattle.snap_judge.specs.History.{History}
use Rattle.snap_run_judge.specs.RunHistory.{history_of}
use Rattle.snap_history_text.specs.HistoryText as text
use Rattle.snap_history_text.specs.declared.refusal.HistoryRefusal.TheVariants as history
use Rattle.snap_tasks.specs.declared.judge_request.JudgeSource.{JudgeSource}
use Rattle.snap_tasks.specs.declared.judge_request.JudgeSource.TheVariants as source
use Rattle.snap_tasks.specs.declared.subject.Subject.{Subject}
use Rattle.snap_input.specs.Input.{checked_parts, parted}
use Rattle.snap_input.specs.Parts.{max_input, part, parts_of}
use Rattle.snap_input.specs.Schedules.{schedule_for}
use Rattle.snap_faults.specs.declared.fault.ProgramFault.{ProgramFault}
use Rattle.snap_faults.specs.declared.fault.ProgramFault.TheVariants as fault

-- the history of a listing's run under the schedule that a text is
unfoldable pub run_history : Source → List ℕ → Result History Refusal
run_history l schedule = do
  s ← schedule_for l schedule
  Ok (history_of (run_over l s))

abbrev pub history_of_texts : Source → List (List ℕ) → Result History Refusal
history_of_texts l texts = run_history l (part 0 texts)

-- the history of the run that an input asks for, or the first reason why it asks for none
unfoldable pub history_in : Subject → List ℕ → Result History Refusal
history_in s input =
    if nat_lt max_input (length input) then Err refusal.InputTooLong else parted s 1 (parts_of input) history_of_texts

-- the history that is judged
abbrev pub judged : JudgeSource → List ℕ → Result History ProgramFault
judged (source.Run s) input = refused_as fault.Refused (history_in s input)
judged source.History input = refused_as fault.History (text.history_of input)

-- why there is no answer
abbrev pub why : {A E : Type 0} → Result A E → Option E
why (Ok x) = None
why (Err e) = Some e

-- the reason that is found before any memory is asked for
abbrev pub found_at_once : JudgeSource → List ℕ → Option ProgramFault
found_at_once (source.Run s) input =
    if nat_lt max_input (length input) then Some (fault.Refused refusal.InputTooLong) else
    why (refused_as fault.Refused (checked_parts s 1 (parts_of input)))
found_at_once source.History input =
    if nat_lt text.max_bytes (length input) then Some (fault.History history.TooLong) else None
