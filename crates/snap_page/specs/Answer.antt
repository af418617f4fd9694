-- What a page in a browser is answered: the output of a task, or what is written of a judgement of a run; or the reason
-- why there is none.
use Rattle.std.specs.Prelude.{◌≡◌, ℕ, nat_lt, List, length, Option, Some, Result, Ok, Err, Vec, ⊤, if◌then◌else◌}
use Rattle.std.specs.Global.{Global}
use Rattle.snap_semantics.specs.declared.fault.Fault.{Fault}
use Rattle.snap_semantics.specs.declared.fault.Fault.TheVariants as fault
use Rattle.snap_semantics.specs.declared.refusal.Refusal.{Refusal}
use Rattle.snap_semantics.specs.declared.refusal.Refusal.TheVariants as refusal
use Rattle.snap_judge.specs.declared.linearizability.Linearizability.{Linearizability}
use Rattle.snap_judge_task.specs.JudgeAnswer.{IsJudged}
use Rattle.snap_judge_task.specs.Judged.{judged}
use Rattle.snap_faults.specs.declared.fault.ProgramFault.TheVariants as judge
use Rattle.snap_tasks.specs.declared.judge_request.JudgeRequest.{JudgeRequest}
use Rattle.snap_tasks.specs.declared.judge_request.JudgeSource.TheVariants as source
use Rattle.snap_tasks.specs.declared.subject.Subject.{Subject}
use Rattle.snap_input.specs.Input.{checked_parts}
use Rattle.snap_input.specs.Parts.{max_input, parts_of}
use Rattle.snap_output.specs.AtOnce as task
use Rattle.snap_output.specs.Output.{IsAnswerTo}
use Rattle.snap_page.specs.declared.page_request.PageRequest.{PageRequest}
use Rattle.snap_page.specs.declared.page_request.PageRequest.TheVariants.{Do, Judge}

-- how many configurations a search meets at most for a page
abbrev pub page_configurations : ℕ
page_configurations = 100000

-- what is judged for a page: the run of this listing
abbrev pub judge_request : Subject → JudgeRequest
judge_request s = record { source = source.Run s; most = page_configurations }

-- What is written of the run that an input asks for, by a judgement of it that is so; or why it asks for none.
abbrev pub IsJudgedRun : Subject → List ℕ → Result (List ℕ) Refusal → Type 0
IsJudgedRun s input (Ok text) = (word : Linearizability) × IsJudged (judge_request s) input text word
IsJudgedRun s input (Err r) = judged (source.Run s) input ≡ Err (judge.Refused r)

-- What is answered to what a page asks: the output, or the reason why there is none.
abbrev pub IsAnswerFor : PageRequest → List ℕ → Result (List ℕ) Refusal → Type 0
IsAnswerFor (Do t) input answer = IsAnswerTo t input answer
IsAnswerFor (Judge s) input answer = IsJudgedRun s input answer

-- What was answered is right; a want of memory may stand in its place.
abbrev pub AnswersBy : {E : Type 0} → (Result (List ℕ) E → Type 0) → Result (Vec ℕ Global) (Fault E) → Type 0
AnswersBy IsRight (Ok out) = IsRight (Ok out.items)
AnswersBy IsRight (Err fault.Memory) = ⊤
AnswersBy IsRight (Err (fault.Refused r)) = IsRight (Err r)

-- the refusal that is found before any memory is asked for
abbrev pub found_at_once : PageRequest → List ℕ → Option Refusal
found_at_once (Do t) input = task.found_at_once t input
found_at_once (Judge s) input =
    if nat_lt max_input (length input) then Some refusal.InputTooLong else
    task.why (checked_parts s 1 (parts_of input))
