-- What the reader of schedules makes of the next line: the shape (`first_shape`), or the form of some items
-- (`next_form`).
use Rattle.std.specs.Prelude.{ℕ, ◌-◌, ◌&&◌, List, [], ◌∷◌, ◌++◌, length, Option, Some, None, Result, Ok, Err, if◌then◌else◌}
use Rattle.snap_words.specs.Shape.{Counts, max_items}
use Rattle.snap_semantics.specs.declared.process.Item.{Item}
use Rattle.snap_semantics.specs.declared.refusal.ScheduleRefusal.{ScheduleRefusal}
use Rattle.snap_semantics.specs.declared.refusal.ScheduleRefusal.TheVariants as refusal
use Rattle.snap_semantics.specs.Answers.{◌>>=◌}
use Rattle.snap_semantics.specs.Rules.{form_or}
use Rattle.snap_semantics.specs.Schedule.{admitted, items_of}
use Rattle.snap_semantics.specs.ScheduleForms.{ItemForm, Steps, Calls, Crashes, is_count, shape_form, item_form}
use Rattle.snap_semantics.specs.Token.{TextLine}
use Rattle.snap_sched.specs.declared.forms.ItemForm as code
use Rattle.snap_sched.specs.declared.forms.ItemForm.TheVariants as given

abbrev pub view_form : code.ItemForm → ItemForm
view_form (given.Steps i count) = Steps i count
view_form (given.Call i op) = Calls i op
view_form (given.Crash i) = Crashes i

-- the shape of these counts, where they are one
abbrev pub shape_of : ℕ → ℕ → Option Counts
shape_of n w = if is_count n && is_count w then Some (record { n = n; w = w }) else None

-- the form of a line, of which so many items may still come
abbrev pub line_form : ℕ → ℕ → TextLine → Result ItemForm ScheduleRefusal
line_form n left line =
    form_or (refusal.BadItem line.number) item_form line.tokens >>= λ form. admitted n left line.number form

-- the form of the first line, of which so many items may still come, and the lines behind
-- it; none where there is no line
abbrev pub next_form : ℕ → ℕ → List TextLine → Result (Option (ItemForm × List TextLine)) ScheduleRefusal
next_form n left [] = Ok None
next_form n left (line ∷ lines) = line_form n left line >>= λ form. Ok (Some (form, lines))

abbrev pub shape_then : List TextLine → Result Counts ScheduleRefusal → Result (Counts × List TextLine) ScheduleRefusal
shape_then lines (Ok s) = Ok (s, lines)
shape_then lines (Err e) = Err e

-- the shape that the first line is, and the lines behind it
abbrev pub first_shape : List TextLine → Result (Counts × List TextLine) ScheduleRefusal
first_shape [] = Err refusal.BadShape
first_shape (line ∷ lines) = shape_then lines (form_or refusal.BadShape shape_form line.tokens)

-- items before those that were read
abbrev pub prefixed : List Item → Result (List Item) ScheduleRefusal → Result (List Item) ScheduleRefusal
prefixed xs (Ok ys) = Ok (xs ++ ys)
prefixed xs (Err e) = Err e

-- the items of a text, of which these are read and the others are those of the lines that are left
abbrev pub items_with : ℕ → List Item → List TextLine → Result (List Item) ScheduleRefusal
items_with n items lines = prefixed items (items_of n (max_items - length items) lines)
