-- A whole run of a task, from a byte source to a byte sink: its output, and why there is none.
use Rattle.std.specs.Prelude.{◌≡◌, ℕ, Bool, List, Vec, Result, Ok, Err, IfOk}
use Rattle.std.specs.Global.{Global}
use Rattle.snap_streams.specs.State.{SourceState, SinkState}
use Rattle.snap_program.specs.WholeRun.{ConductsBy, ConductsKeeping, done_of}
use Rattle.snap_faults.specs.declared.fault.ProgramFault.{ProgramFault}
use Rattle.snap_faults.specs.declared.fault.ProgramFault.TheVariants as fault
use Rattle.snap_judge.specs.declared.judgements.Failing.{Failing}
use Rattle.snap_output.specs.Output.{AreJudged, IsAnswerTo, clean_of, output_of}
use Rattle.snap_program.specs.Skipped.{run_in, told_in}
use Rattle.snap_tasks.specs.declared.subject.Subject.{Subject}
use Rattle.snap_tasks.specs.declared.task.Task.{Task}
use Rattle.snap_tasks.specs.declared.task.Task.TheVariants as task

-- the output of a task, of judgements that say what is so
abbrev pub IsOutputOf : Task → (input text : List ℕ) → Type 0
IsOutputOf task input text = IsAnswerTo task input (Ok text)

-- why there is none
abbrev pub RefusesTask : Task → (input : List ℕ) → ProgramFault → Type 0
RefusesTask task input (fault.Refused f) = IsAnswerTo task input (Err f)
RefusesTask task input _ = ⊥

-- A whole run of a task: each input has one refusal, or one output for what was judged for it.
abbrev pub Conducts : (answer : Result (Unit {0}) ProgramFault) (task : Task)
    (source source_after : SourceState) (sink sink_after : SinkState) → Type 0
Conducts answer task source source_after sink sink_after =
    ConductsBy (IsOutputOf task) (RefusesTask task) answer source source_after sink sink_after

-- the output of a task, and whether all runs that are surveyed are clean, where that is answered, both by the same
-- judgements
abbrev pub IsOutcomeOf : Result Bool ProgramFault → Task → (input text : List ℕ) → Type 0
IsOutcomeOf answer task input text =
    (judged : List Failing) × AreJudged task input judged × (output_of judged task input ≡ Ok text)
    × IfOk answer (λ clean. clean_of judged task input ≡ Ok clean)

-- A whole run of a task that keeps its input, and answers whether all runs that are surveyed are clean.
abbrev pub ConductsTask : (answer : Result Bool ProgramFault) (task : Task) (kept : List ℕ)
    (source source_after : SourceState) (sink sink_after : SinkState) → Type 0
ConductsTask answer task kept source source_after sink sink_after =
    ConductsKeeping (IsOutcomeOf answer task) (RefusesTask task) kept
    (done_of answer) source source_after sink sink_after

-- an output of a run, and what is told of the calls that it skipped, where that is answered
abbrev pub IsToldRun : Result (Vec ℕ Global) ProgramFault → Subject → (input text : List ℕ) → Type 0
IsToldRun answer s input text =
    IsOutputOf (task.Run s) input text × IfOk answer (λ told. told.items ≡ told_in (run_in s input))

-- A whole run of a listing under a schedule that keeps its input, and answers what is told of the calls that it skipped.
abbrev pub ConductsTelling : (answer : Result (Vec ℕ Global) ProgramFault) (subject : Subject) (kept : List ℕ)
    (source source_after : SourceState) (sink sink_after : SinkState) → Type 0
ConductsTelling answer subject kept source source_after sink sink_after =
    ConductsKeeping (IsToldRun answer subject) (RefusesTask (task.Run subject)) kept
    (done_of answer) source source_after sink sink_after
