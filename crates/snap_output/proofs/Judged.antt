-- What is answered for a task, with what was judged for it: of an input that is not too long it is what is written for
-- its parts; and for most tasks nothing is judged.
use Rattle.std.proofs.Common.{◌≡◌, ℕ, ◌≤◌, List, [], Result, Ok, Err, length, refl, ◌∙◌}
use Rattle.std.proofs.lemmas.Bool.{le-ltb}
use Rattle.snap_semantics.specs.Answers.{Answers}
use Rattle.snap_semantics.specs.declared.fault.Fault.{Fault}
use Rattle.snap_semantics.specs.declared.refusal.Refusal.{Refusal}
use Rattle.snap_input.specs.Parts.{max_input}
use Rattle.snap_judge.specs.declared.judgements.Failing.{Failing}
use Rattle.snap_run_judge.specs.Judged.{AnswersJudged}
use Rattle.snap_output.specs.Output.{AreJudged, of_task, output_of}
use Rattle.snap_tasks.specs.declared.task.Task.{Task}

-- an input that is not too long, and a task of this kind
of_kind : (judged : List Failing) (input : List ℕ) (t k : Task) → length input ≤ max_input → t ≡ k →
    output_of judged t input ≡ of_task judged k input
unfolding output_of
of_kind judged input t k short is = rw (is, le-ltb max_input (length input) short) refl

module _ {X : Type 0} (view : X → List ℕ) (input : List ℕ) (short : length input ≤ max_input) (t k : Task)
    (is : t ≡ k) where
  -- nothing is judged for it
  pub unjudged : (result : Result X (Fault Refusal)) → AreJudged k input [] → Answers view result (of_task [] k input) →
      AnswersJudged view (AreJudged t input) result (λ judged. output_of judged t input)
  unjudged (Ok x) none e = ([], rw is none, of_kind [] input t k short is ∙ e)
  unjudged (Err fault) none e = rw (of_kind [] input t k short is) e

  -- what was judged for it
  pub judged : (result : Result X (Fault Refusal)) →
      AnswersJudged view (AreJudged k input) result (λ judged. of_task judged k input) →
      AnswersJudged view (AreJudged t input) result (λ judged. output_of judged t input)
  judged (Ok x) h = (h.0, rw is h.1, of_kind h.0 input t k short is ∙ h.2)
  judged (Err fault) h = rw (of_kind [] input t k short is) h
