-- What is written for an input that is to be judged, and the word for it; or why nothing is written.
use Rattle.std.specs.Prelude.{◌≡◌, ℕ, List, Result, Ok, Err, ⊤}
use Rattle.snap_judge.specs.History.{History}
use Rattle.snap_judge.specs.Judgement.{IsJudgement, failing_of}
use Rattle.snap_judge.specs.declared.judgements.Judgement.{Judgement}
use Rattle.snap_history_text.specs.JudgementText.{judgement_text}
use Rattle.snap_run_judge.specs.RunJudgement.{word_of}
use Rattle.snap_judge.specs.declared.linearizability.Linearizability.{Linearizability}
use Rattle.snap_tasks.specs.declared.judge_request.JudgeRequest.{JudgeRequest}
use Rattle.snap_tasks.specs.declared.judge_request.JudgeSource.{JudgeSource}
use Rattle.snap_faults.specs.declared.fault.ProgramFault.{ProgramFault}
use Rattle.snap_faults.specs.declared.fault.ProgramFault.TheVariants as fault
use Rattle.snap_judge_task.specs.declared.output.JudgeOutput.{JudgeOutput}
use Rattle.snap_judge_task.specs.Failing.{IsMore}
use Rattle.snap_judge_task.specs.Judged.{judged}

-- A history, or why the input gives none.
abbrev pub AnswersHistory : JudgeSource → (input : List ℕ) → Result History ProgramFault → Type 0
AnswersHistory s input (Ok h) = judged s input ≡ Ok h
AnswersHistory s input (Err fault.Memory) = ⊤
AnswersHistory s input (Err (fault.Refused f)) = judged s input ≡ Err (fault.Refused f)
AnswersHistory s input (Err (fault.History f)) = judged s input ≡ Err (fault.History f)
AnswersHistory s input (Err _) = ⊥

-- A judgement of the history tells the text and the word: the text is what is written of it, with an order of what was
-- before where the history fails; and the word is that for the judgement.
pub record TellsOf (most : ℕ) (h : History) (text : List ℕ) (word : Linearizability) : Type 0 where
  pub judgement : Judgement
  pub is_so : IsJudgement most h judgement
  pub written : IsMore most h (failing_of judgement) (judgement_text h judgement) text
  pub word_for_it : word ≡ word_of (failing_of judgement)

-- The text and the word are so of what an input gives to be judged.
abbrev pub IsJudged : JudgeRequest → (input text : List ℕ) → Linearizability → Type 0
IsJudged r input text word = (h : History) × (judged r.source input ≡ Ok h) × TellsOf r.most h text word

-- A text, or why the input gives nothing to be judged.
abbrev pub AnswersJudge : JudgeRequest → (input : List ℕ) → Result JudgeOutput ProgramFault → Type 0
AnswersJudge r input (Ok out) = IsJudged r input out.text.items out.word
AnswersJudge r input (Err fault.Memory) = ⊤
AnswersJudge r input (Err (fault.Refused f)) = judged r.source input ≡ Err (fault.Refused f)
AnswersJudge r input (Err (fault.History f)) = judged r.source input ≡ Err (fault.History f)
AnswersJudge r input (Err _) = ⊥
