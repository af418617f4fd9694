-- What is crossed out of a run: the operation whose end is the first event up to which no order of the operations
-- explains what the callers saw.
use Rattle.std.specs.Prelude.{◌≡◌, ℕ, ◌&&◌, List, [], ◌∷◌, ◌++◌, Option, Some, None, nat_eq, if◌then◌else◌}
use Rattle.snap_semantics.specs.declared.event.Event.{Event}
use Rattle.snap_runs.specs.Run.{Run}
use Rattle.snap_judge.specs.declared.judgements.Failing.{Failing}
use Rattle.snap_judge.specs.declared.judgements.Failing.TheVariants as failing
use Rattle.snap_judge.specs.Linearizable.{last_of}
use Rattle.snap_run_judge.specs.RunHistory.{history_of}
use Rattle.snap_run_judge.specs.RunJudgement.{IsRunJudgement}
use Rattle.snap_picture.specs.ShapeText.{bar_span}
use Rattle.snap_picture.specs.declared.shape.Bar.{Bar}
use Rattle.snap_picture.specs.declared.shape.Shape.{Shape}
use Rattle.snap_picture.specs.declared.shape.Shape.TheVariants as shape

-- the event at which a run fails by this judgement
abbrev pub wrong_at : Run → Failing → Option Event
wrong_at r (failing.At k) = Some (last_of k (history_of r))
wrong_at r failing.Nowhere = None
wrong_at r (failing.Undecided k) = None

-- The run fails at this event, or at none, by a judgement of it that is so, and that meets at most so many
-- configurations.
abbrev pub FailsBy : (most : ℕ) → Run → Option Event → Type 0
FailsBy most r wrong = (j : Failing) × IsRunJudgement most r j × (wrong ≡ wrong_at r j)

-- an operation, where it is this process's and ended with this item
abbrev pub crossed_bar : (process item : ℕ) → Bar → List Shape
crossed_bar process item b =
    if nat_eq b.process process && nat_eq b.to item then shape.Unexplained (bar_span b) ∷ [] else []

abbrev pub crossed_shape : (process item : ℕ) → Shape → List Shape
crossed_shape process item (shape.Operation b) = crossed_bar process item b
crossed_shape process item _ = []

-- the operation of this process that ended with this item, among what is drawn
abbrev pub crossed_out : (process item : ℕ) → List Shape → List Shape
crossed_out process item [] = []
crossed_out process item (x ∷ xs) = crossed_shape process item x ++ crossed_out process item xs

-- the operation whose end is this event
abbrev pub crossed_at : Option Event → List Shape → List Shape
crossed_at None ss = []
crossed_at (Some e) ss = crossed_out e.process e.item ss
