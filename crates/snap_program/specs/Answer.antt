-- `AnswersLine`: what snaplab does about its command line, what it reads, writes and says, and the status that it
-- ends with.
use Rattle.std.specs.Prelude.{◌≡◌, ℕ, Vec, Bool, true, not, ◌&&◌, List, [], Result, Ok, Err}
use Rattle.std.specs.Prelude.{if◌then◌else◌, codes}
use Rattle.std.specs.Global.{Global}
use Rattle.snap_options.specs.CommandLines.{AnswersUnasked}
use Rattle.snap_options.specs.declared.invocation.Invocation.{Invocation}
use Rattle.snap_options.specs.declared.invocation.Unasked.{Unasked}
use Rattle.snap_program.specs.declared.arguments.Order.{Order}
use Rattle.snap_tasks.specs.declared.request.Request.{Request}
use Rattle.snap_tasks.specs.declared.request.Request.TheVariants as request
use Rattle.snap_tasks.specs.declared.task.Task.{Task}
use Rattle.snap_tasks.specs.declared.task.Task.TheVariants as task
use Rattle.snap_tasks.specs.declared.subject.Subject.{Subject}
use Rattle.snap_tasks.specs.declared.judge_request.JudgeRequest.{JudgeRequest}
use Rattle.snap_judge.specs.declared.linearizability.Linearizability.{Linearizability}
use Rattle.snap_judge.specs.declared.linearizability.Linearizability.TheVariants as word
use Rattle.snap_program.specs.WholeRun.{ConductsJudge, ConductsLiveKeeping, ConductsModel}
use Rattle.snap_faults.specs.Names.{Names, of_program}
use Rattle.snap_faults.specs.Told.{SaysWhy, TellsMore, exit_status, success}
use Rattle.snap_faults.specs.declared.fault.ProgramFault.{ProgramFault}
use Rattle.snap_faults.specs.declared.fault.ProgramFault.TheVariants.{Refused, History, Live, Model}
use Rattle.snap_streams.specs.Sent.{Says}
use Rattle.snap_streams.specs.State.{SourceState, SinkState}
use Rattle.snap_program.specs.TaskRun.{ConductsTask, ConductsTelling}
use Rattle.snap_explanation.specs.Explanation.{explanation}
use Rattle.snap_explanation.specs.HistoryExplanation.{history_explanation}
use Rattle.snap_explanation.specs.LiveExplanation.{turn_limit_explanation}
use Rattle.snap_explanation.specs.ModelExplanation.{model_explanation}
use Rattle.snap_semantics.specs.declared.refusal.LiveRefusal.TheVariants.{TurnLimit}
use Rattle.snap_explanation.specs.Part.{layout_of}

-- the status of a task where all of its output was written: 4 of a strict survey of which a run is not clean
abbrev pub task_status : (strict clean : Bool) → ℕ
task_status strict clean = if strict && not clean then 4 else 0

-- the status where all of a judgement was written: 0 where what was judged is linearizable, 4 where it is not, and 5
-- where that is undecided
abbrev pub word_status : Linearizability → ℕ
word_status word.Linearizable = 0
word_status word.NotLinearizable = 4
word_status word.Undecided = 5

-- what the program is called; its command line names no files
abbrev pub snaplab : Names
snaplab = of_program (codes "snaplab")

-- what is said behind the line of a fault, where refusals are explained
abbrev pub why : Request → (input : List ℕ) → ProgramFault → List ℕ
why asked input (Refused r) = explanation (layout_of asked) input r
why asked input (History r) = history_explanation input r
why asked input (Live (TurnLimit process)) = turn_limit_explanation process
why asked input (Model r) = model_explanation r
why asked input _ = []

abbrev pub explained : Invocation Order → (input : List ℕ) → ProgramFault → List ℕ
explained asked input fault = if asked.explains then why asked.request.request input fault else []

-- A whole live run, or one under a schedule: where it was written, what is said of the operations that call nothing.
abbrev pub SaysUncalled : Invocation Order → (input : List ℕ) → Result (Vec ℕ Global) ProgramFault →
    (errors errors_after : SinkState) → Type 0
SaysUncalled asked input (Ok uncalled) errors errors_after = Says uncalled.items errors errors_after
SaysUncalled asked input (Err fault) errors errors_after =
    TellsMore snaplab fault (explained asked input fault) errors errors_after

-- What is said where the input is read from a terminal.
abbrev pub terminal_line : List ℕ
terminal_line = codes "reading from the terminal; end with Ctrl-D\n"

-- What is said if the request is for an input, and nothing otherwise.
abbrev pub SaysTerminal : Result (Invocation Order) Unasked → (errors errors_after : SinkState) → Type 0
SaysTerminal (Ok asked) errors errors_after = Says terminal_line errors errors_after
SaysTerminal (Err unasked) errors errors_after = errors ≡ errors_after

-- What the program does about a task: what it takes of its source, what it gives its sink and its device for
-- messages, and its status. Where an input is refused, it is the one that is explained.
abbrev pub AnswersTask : Task → Invocation Order → (status : ℕ) →
    (source source_after : SourceState) → (sink sink_after errors errors_after : SinkState) → Type 0
AnswersTask task asked status source source_after sink sink_after errors errors_after =
    (done : Result Bool ProgramFault) × (kept : List ℕ) × (status ≡ exit_status (task_status asked.request.strict) done)
    × ConductsTask done task kept source source_after sink sink_after
    × SaysWhy snaplab (explained asked kept) done errors errors_after

-- What it does about a run under a schedule where refusals are explained: it tells of the calls that the run skipped.
abbrev pub AnswersTelling : Subject → Invocation Order → (status : ℕ) →
    (source source_after : SourceState) → (sink sink_after errors errors_after : SinkState) → Type 0
AnswersTelling subject asked status source source_after sink sink_after errors errors_after =
    (done : Result (Vec ℕ Global) ProgramFault) × (kept : List ℕ) × (status ≡ exit_status success done)
    × ConductsTelling done subject kept source source_after sink sink_after
    × SaysUncalled asked kept done errors errors_after

-- What it does about a task, and whether it tells more than why it is not done.
abbrev pub AnswersTold : (tells : Bool) → Task → Invocation Order → (status : ℕ) →
    (source source_after : SourceState) → (sink sink_after errors errors_after : SinkState) → Type 0
AnswersTold true (task.Run subject) asked status source source_after sink sink_after errors errors_after =
    AnswersTelling subject asked status source source_after sink sink_after errors errors_after
AnswersTold _ t asked status source source_after sink sink_after errors errors_after =
    AnswersTask t asked status source source_after sink sink_after errors errors_after

-- What it does about a live run, at no gate.
abbrev pub AnswersLively : Subject → (limit : ℕ) → Invocation Order → (status : ℕ) →
    (source source_after : SourceState) → (sink sink_after errors errors_after : SinkState) → Type 0
AnswersLively subject limit asked status source source_after sink sink_after errors errors_after =
    (done : Result (Vec ℕ Global) ProgramFault) × (kept : List ℕ) × (status ≡ exit_status success done)
    × ConductsLiveKeeping (λ process turn answer. answer ≡ true) subject limit kept done
    source source_after sink sink_after
    × SaysUncalled asked kept done errors errors_after

-- What it does about what is to be judged.
abbrev pub AnswersJudge : JudgeRequest → Invocation Order → (status : ℕ) →
    (source source_after : SourceState) → (sink sink_after errors errors_after : SinkState) → Type 0
AnswersJudge judged asked status source source_after sink sink_after errors errors_after =
    (done : Result Linearizability ProgramFault) × (kept : List ℕ) × (status ≡ exit_status word_status done)
    × ConductsJudge judged kept done source source_after sink sink_after
    × SaysWhy snaplab (explained asked kept) done errors errors_after

-- What it does about a model.
abbrev pub AnswersModelled : Subject → Invocation Order → (status : ℕ) →
    (source source_after : SourceState) → (sink sink_after errors errors_after : SinkState) → Type 0
AnswersModelled subject asked status source source_after sink sink_after errors errors_after =
    (done : Result (Unit {0}) ProgramFault) × (kept : List ℕ) × (status ≡ exit_status success done)
    × ConductsModel subject kept done source source_after sink sink_after
    × SaysWhy snaplab (explained asked kept) done errors errors_after

-- What it does about what was asked for.
abbrev pub AnswersRequest : Request → Invocation Order → (status : ℕ) →
    (source source_after : SourceState) → (sink sink_after errors errors_after : SinkState) → Type 0
AnswersRequest (request.Do t) asked status source source_after sink sink_after errors errors_after =
    AnswersTold asked.explains t asked status source source_after sink sink_after errors errors_after
AnswersRequest (request.Live subject limit) asked status source source_after sink sink_after errors errors_after =
    AnswersLively subject limit asked status source source_after sink sink_after errors errors_after
AnswersRequest (request.Judge judged) asked status source source_after sink sink_after errors errors_after =
    AnswersJudge judged asked status source source_after sink sink_after errors errors_after
AnswersRequest (request.Model subject crashes) asked status source source_after sink sink_after errors errors_after =
    AnswersModelled subject asked status source source_after sink sink_after errors errors_after

-- What the program does about a command line, or about one that asks for nothing to be done: what it takes of its
-- source, what it gives its sink and its device for messages, and its status.
abbrev pub AnswersLine : Result (Invocation Order) Unasked → (status : ℕ) →
    (source source_after : SourceState) → (sink sink_after errors errors_after : SinkState) → Type 0
AnswersLine (Ok asked) status source source_after sink sink_after errors errors_after =
    AnswersRequest asked.request.request asked status source source_after sink sink_after errors errors_after
AnswersLine (Err unasked) status source source_after sink sink_after errors errors_after =
    (source ≡ source_after) × AnswersUnasked snaplab unasked status sink sink_after errors errors_after
