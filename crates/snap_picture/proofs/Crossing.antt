-- What is drawn of one list of shapes and another behind it; and the picture of a run that was judged.
use Rattle.std.proofs.Common.{◌≡◌, ◌∙◌, ℕ, true, false, List, [], ◌∷◌, ◌++◌, Option, Result, Ok, Err, Vec}
use Rattle.std.proofs.Common.{append_assoc, refl, subst}
use Rattle.std.specs.Prelude.{IfOk, MatchResult}
use Rattle.std.specs.Global.{Global}
use Rattle.snap_semantics.specs.declared.event.Event.{Event}
use Rattle.snap_runs.specs.Run.{Run}
use Rattle.snap_text.specs.Drafted.{Drafted}
use Rattle.snap_judge.specs.declared.judgements.Failing.{Failing}
use Rattle.snap_run_judge.specs.RunJudgement.{IsRunJudgement}
use Rattle.snap_picture.specs.Shapes.{shapes}
use Rattle.snap_picture.specs.ShapeText.{shapes_text}
use Rattle.snap_picture.specs.Window.{Part}
use Rattle.snap_picture.specs.declared.shape.Shape.{Shape}
use Rattle.snap_picture.specs.Crossed.{FailsBy, wrong_at}
use Rattle.snap_picture.specs.Picture.{picture_by, picture_text}

-- what is drawn of two lists, one behind the other
pub shapes_joined : (p : Part) (xs ys : List Shape) → shapes_text p (xs ++ ys) ≡ shapes_text p xs ++ shapes_text p ys
shapes_joined p [] ys = refl
shapes_joined p (x ∷ xs) ys = rw (shapes_joined p xs ys) (simp append_assoc)

-- what a draft has when it is finished
pub finished : {E : Type 0} (result : Result (Vec ℕ Global) E) (draft : Drafted) (whole : List ℕ) →
    MatchResult result (λ text. (draft.failed ≡ false) × (text.items ≡ draft.text)) (λ _. draft.failed ≡ true) →
    (draft.failed ≡ false → draft.text ≡ whole) → IfOk result (λ out. out.items ≡ whole)
finished (Ok out) draft whole h is = h.1 ∙ is h.0
finished (Err e) draft whole h is = tt

-- the picture of a run that was judged
pub judged : {E : Type 0} (most : ℕ) (r history : Run) (j : Failing) (ss : List Shape) (wrong : Option Event) (p : Part)
    (listing : Option (List ℕ)) (schedule style legend : List ℕ) (result : Result (Vec ℕ Global) E) → history ≡ r →
    IsRunJudgement most history j → ss ≡ shapes r → wrong ≡ wrong_at history j →
    IfOk result (λ out. out.items ≡ picture_by history ss p listing schedule style legend wrong) →
    IfOk result
    (λ out.
    (x : Option Event) × FailsBy most r x × (out.items ≡ picture_text r p listing schedule style legend x))
judged most r history j ss wrong p listing schedule style legend (Ok out) is so drawn at h = (
  wrong_at r j,
  (j, subst (λ (x : Run). IsRunJudgement most x j) is so, refl),
  h ∙ rw (drawn, at, is) refl,
)
judged most r history j ss wrong p listing schedule style legend (Err e) is so drawn at h = tt
