-- What is written where runs are judged. The input does not determine whether a search decides, nor up to which event
-- it does not; so what is written is defined of judgements, and there are such judgements, which say what is so.
use Rattle.std.specs.Prelude.{◌≡◌, List, [], Result, Ok, Err}
use Rattle.snap_semantics.specs.Answers.{IsRefusal}
use Rattle.snap_semantics.specs.declared.fault.Fault.{Fault}
use Rattle.snap_judge.specs.declared.judgements.Failing.{Failing}

-- What was answered, seen by `view`, is what the definition gives of judgements of which this holds. An input that is
-- refused is refused before anything is judged; a want of memory may stand in place of both.
abbrev pub AnswersJudged : {X Y R : Type 0} → (X → Y) → (List Failing → Type 0) → Result X (Fault R) →
    (List Failing → Result Y R) → Type 0
AnswersJudged view AreJudged (Ok x) answer =
    (judged : List Failing) × AreJudged judged × (answer judged ≡ Ok (view x))
AnswersJudged view AreJudged (Err fault) answer = IsRefusal fault (answer [])
