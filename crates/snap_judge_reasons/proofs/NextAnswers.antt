-- Answers that would be right behind the events before an answer, and those that would have been right in its place.
use Rattle.std.proofs.Common.{◌≡◌, ℕ, ◌-◌, ◌<◌, ◌+◌, List, [], ◌∷◌, ◌++◌, length, arith}
use Rattle.std.specs.List.{All}
use Rattle.std.proofs.lemmas.List.{length_push}
use Rattle.std.proofs.lemmas.List.Elements.{All-push}
use Rattle.std.proofs.lemmas.List.Quantifiers.{all_pairs_push}
use Rattle.snap_words.specs.Shape.{IsOneOf}
use Rattle.snap_semantics.specs.declared.event.Happening.TheVariants as what
use Rattle.snap_judge.specs.History.{History}
use Rattle.snap_judge.specs.Linearizable.{up_to, last_of}
use Rattle.snap_judge_reasons.specs.RightAnswers.{AreRightAnswers, AreRightNext, IsRightNext, most_answers}

-- One more right answer, which is not there.
pub one_more : (h : History) (i t : ℕ) (views : List (List ℕ)) (view : List ℕ) → AreRightNext h i t views →
    length views < most_answers → All (λ (other : List ℕ). other ≡ view → ⊥) views → IsRightNext h i t view →
    AreRightNext h i t (views ++ view ∷ [])
one_more h i t views view are few not right = record {
  few = (let count : length (views ++ view ∷ []) ≡ length views + 1 = length_push views view in omega (arith, count, few));
  right = All-push (IsRightNext h i t) views view are.right right;
  apart = all_pairs_push (λ (a b : List ℕ). a ≡ b → ⊥) views view are.apart not;
}

-- What would be right behind the events before an answer would have been right in its place.
pub right_in_place : (h : History) (k : ℕ) (other : List ℕ) (views : List (List ℕ)) → IsOneOf (length h.events) k →
    (last_of k h).what ≡ what.Answer other →
    AreRightNext (up_to (k - 1) h) (last_of k h).process (last_of k h).item views → AreRightAnswers h k views
right_in_place h k other views one answers are = record {
  few = are.few;
  right = λ j d lt. record {
    is_event = one;
    answers = (other, answers);
    history = (are.right j d lt).0;
    linearizable = (are.right j d lt).1;
  };
  apart = are.apart;
}
