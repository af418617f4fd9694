-- The segments of a schedule's items: steps of one process side by side, a call, or a crash; and when they are the
-- greatest ones (`AreGreatest`).
use Rattle.std.specs.Prelude.{◌≡◌, ℕ, List, [], ◌∷◌, map, Option, Some, None, nat_eq, if◌then◌else◌}
use Rattle.std.specs.List.{flat_map}
use Rattle.snap_semantics.specs.declared.process.Item.{Item}
use Rattle.snap_semantics.specs.Schedule.{form_items}
use Rattle.snap_semantics.specs.ScheduleForms.{ItemForm, Steps, Calls, Crashes}
use Rattle.snap_semantics.specs.ScheduleText.{forms_of}
use Rattle.snap_sched.specs.declared.segments.Segment.{Segment}
use Rattle.snap_sched.specs.declared.segments.Segment.TheVariants as segments

-- a segment as the form of a line that it is
abbrev pub segment_form : Segment → ItemForm
segment_form (segments.Steps i count) = Steps i count
segment_form (segments.Call i op) = Calls i op
segment_form (segments.Crash i) = Crashes i

abbrev pub segment_items : Segment → List Item
segment_items r = form_items (segment_form r)

abbrev pub items_of_segments : List Segment → List Item
items_of_segments rs = flat_map segment_items rs

-- the segments are the greatest ones: no two beside one another are steps of one process, and none is empty
abbrev pub AreGreatest : List Segment → Type 0
AreGreatest rs = forms_of (items_of_segments rs) ≡ map segment_form rs

-- how many steps a form is, where it is steps of this process
abbrev pub steps_of : ℕ → ItemForm → Option ℕ
steps_of p (Steps i count) = if nat_eq i p then Some count else None
steps_of p (Calls i op) = None
steps_of p (Crashes i) = None

-- how many steps the last form is, where it is steps of this process
abbrev pub last_count : ℕ → List ItemForm → Option ℕ
last_count p [] = None
last_count p (f ∷ []) = steps_of p f
last_count p (f ∷ g ∷ fs) = last_count p (g ∷ fs)
