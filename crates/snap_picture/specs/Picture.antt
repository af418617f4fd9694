-- `picture_of`: the SVG picture of a listing's run under a schedule, or the first reason why there is none.
-- `AnswersPicture`: such a picture, where what is crossed out of it is judged.
use Rattle.std.specs.Prelude.{◌≡◌, ℕ, suc, ◌-◌, Bool, true, false, ◌||◌, List, [], ◌∷◌, ◌++◌, length, Option, Some, None}
use Rattle.std.specs.Prelude.{Result, Ok, Err, Vec, nat_eq, nat_lt, if◌then◌else◌}
use Rattle.std.specs.Global.{Global}
use Rattle.snap_words.specs.Shape.{Counts}
use Rattle.snap_semantics.specs.Answers.{◌>>=◌, IsRefusal, refused_as}
use Rattle.snap_semantics.specs.Schedule.{Schedule}
use Rattle.snap_semantics.specs.Source.{Source}
use Rattle.snap_semantics.specs.declared.event.Event.{Event}
use Rattle.snap_semantics.specs.declared.fault.Fault.{Fault}
use Rattle.snap_semantics.specs.declared.process.Op.{Op}
use Rattle.snap_semantics.specs.declared.process.Op.TheVariants as op
use Rattle.snap_runs.specs.Run.{Run, run_over}
use Rattle.snap_input.specs.Schedules.{schedule_for}
use Rattle.snap_picture.specs.FrameText.{foot_text, head_text, input_text}
use Rattle.snap_picture.specs.ShapeText.{shapes_text}
use Rattle.snap_picture.specs.Window.{Part, most_items}
use Rattle.snap_picture.specs.declared.frame.Counts as title
use Rattle.snap_picture.specs.declared.shape.Shape.{Shape}
use Rattle.snap_picture.specs.declared.shape.Shape.TheVariants as shape
use Rattle.snap_picture.specs.Shapes.{shapes}
use Rattle.snap_picture.specs.Crossed.{FailsBy, crossed_at}
use Rattle.snap_picture.specs.declared.options.Options.{Options}
use Rattle.snap_picture.specs.declared.refusal.PictureRefusal.{PictureRefusal}
use Rattle.snap_picture.specs.declared.refusal.PictureRefusal.TheVariants as refusal
use Rattle.snap_picture.specs.declared.sought.Sought.{Sought}
use Rattle.snap_picture.specs.declared.sought.Sought.TheVariants as sought

abbrev pub is_update : Op → Bool
is_update op.Scan = false
is_update (op.Update word value) = true

-- whether a shape is what is counted
abbrev pub counts_as : Sought → Shape → Bool
counts_as sought.Scan (shape.Point q) = true
counts_as sought.Scan (shape.NoPoint s) = true
counts_as sought.NoPoint (shape.NoPoint s) = true
counts_as sought.Update (shape.Operation b) = is_update b.op
counts_as _ _ = false

-- how many shapes are what is counted
abbrev pub counted : Sought → List Shape → ℕ
counted s [] = 0
counted s (x ∷ xs) = if counts_as s x then suc (counted s xs) else counted s xs

-- a number, where it is given, or another
abbrev pub given_or : ℕ → Option ℕ → ℕ
given_or other None = other
given_or other (Some x) = x

-- The items from one to another, where a run has so many: there is one, and they are not too many.
abbrev pub part_between : (total first last : ℕ) → Counts → Bool → Result Part PictureRefusal
part_between total first last n reads =
    if nat_eq first 0 || (nat_lt last first || nat_lt total last) then Err (refusal.NoSuchItems total) else
    if nat_lt most_items (last - (first - 1)) then Err (refusal.TooManyItems (last - (first - 1)))
    else Ok (record { from = first - 1; to = last; processes = n.n; reads = reads })

-- the items that are asked for
unfoldable pub part_of : ℕ → Counts → Options → Result Part PictureRefusal
part_of total n o = part_between total (given_or 1 o.from) (given_or total o.to) n o.reads

-- what a title says of a run of which these shapes are drawn
unfoldable pub counts_of : Run → List Shape → title.Counts
counts_of r ss = record {
  kind = r.source.kind;
  words = r.shape.w;
  items = length r.items;
  scans = counted sought.Scan ss;
  without_point = counted sought.NoPoint ss;
  updates = counted sought.Update ss;
}

-- a run's picture, with the input that it is of; style and legend are given, and the event whose operation is crossed
-- out above all else
unfoldable pub picture_by : Run → List Shape → Part → Option (List ℕ) → List ℕ → (style legend : List ℕ) →
    (wrong : Option Event) → List ℕ
picture_by r ss p listing schedule style legend wrong =
    head_text p (counts_of r ss) style ++ input_text listing schedule ++ shapes_text p (ss ++ crossed_at wrong ss)
    ++ foot_text p legend

abbrev pub picture_text : Run → Part → Option (List ℕ) → List ℕ → (style legend : List ℕ) → (wrong : Option Event) →
    List ℕ
picture_text r p listing schedule style legend wrong = picture_by r (shapes r) p listing schedule style legend wrong

-- the picture of a listing under a schedule, or the first reason why there is none
unfoldable pub picture_of : Source → Option (List ℕ) → List ℕ → Options → (style legend : List ℕ) →
    (wrong : Option Event) → Result (List ℕ) PictureRefusal
picture_of l listing schedule o style legend wrong = do
  s ← refused_as refusal.Input (schedule_for l schedule)
  p ← part_of (length s.items) s.shape o
  Ok (picture_text (run_over l s) p listing schedule style legend wrong)

-- The run of a listing over a schedule's text fails at this event, or at none, by a judgement of it that is so, and
-- that meets at most so many configurations.
abbrev pub FailsUnder : (most : ℕ) → Source → List ℕ → Option Event → Type 0
FailsUnder most l schedule wrong =
    (s : Schedule) × (schedule_for l schedule ≡ Ok s) × FailsBy most (run_over l s) wrong

-- A picture is what the definition gives where what is judged to be wrong, and nothing else, is crossed out; a refusal
-- comes before anything is judged.
abbrev pub IsPictureBy : {E : Type 0} → (Option Event → Type 0) → (Option Event → Result (List ℕ) E) →
    Result (List ℕ) E → Type 0
IsPictureBy IsWrong picture (Ok text) = (wrong : Option Event) × IsWrong wrong × (picture wrong ≡ Ok text)
IsPictureBy IsWrong picture (Err r) = picture None ≡ Err r

-- The picture that is answered; a want of memory may stand in place of it.
abbrev pub AnswersPicture : (Option Event → Type 0) → Result (Vec ℕ Global) (Fault PictureRefusal) →
    (Option Event → Result (List ℕ) PictureRefusal) → Type 0
AnswersPicture IsWrong (Ok out) picture = IsPictureBy IsWrong picture (Ok out.items)
AnswersPicture IsWrong (Err fault) picture = IsRefusal fault (picture None)
