-- The calls that items of a run skipped, and what is told of them.
use Rattle.std.specs.Prelude.{ℕ, zero, suc, ◌-◌, List, [], ◌∷◌, ◌++◌, Option, Some, None, Result, Ok, Err}
use Rattle.std.specs.Prelude.{codes, decimal, length, nat_lt, take, if◌then◌else◌}
use Rattle.snap_input.specs.Input.{Prepared, prepared}
use Rattle.snap_input.specs.Parts.{max_input, part, parts_of}
use Rattle.snap_input.specs.Schedules.{schedule_for}
use Rattle.snap_live_output.specs.Uncalled.{line_front, others_line}
use Rattle.snap_program.specs.declared.skipped.SkippedCall.{SkippedCall}
use Rattle.snap_report.specs.OutcomeText.{reason_text}
use Rattle.snap_runs.specs.Run.{Run, item, outcome, run_over}
use Rattle.snap_semantics.specs.Answers.{◌>>=◌}
use Rattle.snap_semantics.specs.Report.{op_text}
use Rattle.snap_semantics.specs.declared.process.Item.{Item}
use Rattle.snap_semantics.specs.declared.process.Item.TheVariants.{Step, Call, Crash}
use Rattle.snap_semantics.specs.declared.process.Op.{Op}
use Rattle.snap_semantics.specs.declared.process.Outcome.{Outcome}
use Rattle.snap_semantics.specs.declared.process.Outcome.TheVariants as outcome
use Rattle.snap_semantics.specs.declared.refusal.Refusal.{Refusal}
use Rattle.snap_semantics.specs.declared.refusal.Refusal.TheVariants as refusal
use Rattle.snap_tasks.specs.declared.subject.Subject.{Subject}

-- an operation of process i, where its call at item t came out so: a call that was skipped
abbrev pub skipped_op : ℕ → ℕ → Op → Outcome → Option SkippedCall
skipped_op t i o (outcome.Skipped why) = Some (record { item = t; process = i; op = o; reason = why })
skipped_op t i o _ = None

-- item t, where it is a call that was skipped
abbrev pub skipped_call : ℕ → Item → Outcome → Option SkippedCall
skipped_call t (Step i) out = None
skipped_call t (Call i o) out = skipped_op t i o out
skipped_call t (Crash i) out = None

-- a call behind others, if there is one
abbrev pub and_call : List SkippedCall → Option SkippedCall → List SkippedCall
and_call cs None = cs
and_call cs (Some c) = cs ++ c ∷ []

-- the calls that the first t items of a run skipped; a step of an idle process is none
abbrev pub skipped_calls : Run → (t : ℕ) → List SkippedCall
skipped_calls r zero = []
skipped_calls r (suc t) = and_call (skipped_calls r t) (skipped_call (suc t) (item r (suc t)) (outcome r (suc t)))

-- a line for one of them
unfoldable pub skipped_line : SkippedCall → List ℕ
skipped_line c =
    line_front ++ codes "item " ++ decimal c.item ++ codes " process " ++ decimal c.process ++ codes " " ++ op_text c.op
    ++ codes " " ++ reason_text c.reason ++ codes "\n"

abbrev pub skipped_lines : List SkippedCall → List ℕ
skipped_lines [] = []
skipped_lines (c ∷ cs) = skipped_line c ++ skipped_lines cs

-- a line for each of the first eight, and one for the others
unfoldable pub skipped_text : List SkippedCall → List ℕ
skipped_text cs = skipped_lines (take 8 cs) ++ others_line (length cs - 8)

-- what is told of a whole run
abbrev pub told_of : Run → List ℕ
told_of r = skipped_text (skipped_calls r (length r.items))

-- the run of a listing over the schedule behind it
abbrev pub run_of_texts : Prepared → Result Run Refusal
run_of_texts p = schedule_for p.source (part 0 p.texts) >>= λ s. Ok (run_over p.source s)

abbrev pub run_in_parts : Subject → List (List ℕ) → Result Run Refusal
run_in_parts s parts = prepared s 1 parts >>= run_of_texts

-- the run that an input asks for
abbrev pub run_in : Subject → List ℕ → Result Run Refusal
run_in s input = if nat_lt max_input (length input) then Err refusal.InputTooLong else run_in_parts s (parts_of input)

-- what is told of it, where there is one
abbrev pub told_in : Result Run Refusal → List ℕ
told_in (Ok r) = told_of r
told_in (Err why) = []
