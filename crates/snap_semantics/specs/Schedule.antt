-- The grammar of schedules: a shape, and then items, one form a line; and why a text is refused, the first reason
-- first.
use Rattle.std.specs.Prelude.{ℕ, ◌-◌, ◌&&◌, not, List, [], ◌∷◌, ◌++◌, length, replicate}
use Rattle.std.specs.Prelude.{Result, Ok, Err, nat_lt, nat_le, if◌then◌else◌}
use Rattle.snap_words.specs.Shape.{Counts, max_items}
use Rattle.snap_semantics.specs.declared.process.Item.{Item}
use Rattle.snap_semantics.specs.declared.process.Item.TheVariants as item
use Rattle.snap_semantics.specs.declared.refusal.ScheduleRefusal.{ScheduleRefusal}
use Rattle.snap_semantics.specs.declared.refusal.ScheduleRefusal.TheVariants as refusal
use Rattle.snap_semantics.specs.Answers.{◌>>=◌}
use Rattle.snap_semantics.specs.Rules.{form_or}
use Rattle.snap_semantics.specs.ScheduleForms.{ItemForm, Steps, Calls, Crashes, shape_form, item_form}
use Rattle.snap_semantics.specs.Token.{TextLine, text_lines}

-- a schedule: how many processes and words there are, and the items in order
pub record Schedule : Type 0 where
  pub shape : Counts
  pub items : List Item

abbrev pub form_process : ItemForm → ℕ
form_process (Steps i count) = i
form_process (Calls i op) = i
form_process (Crashes i) = i

-- how many items a form is
abbrev pub form_count : ItemForm → ℕ
form_count (Steps i count) = count
form_count (Calls i op) = 1
form_count (Crashes i) = 1

abbrev pub form_items : ItemForm → List Item
form_items (Steps i count) = replicate count (item.Step i)
form_items (Calls i op) = item.Call i op ∷ []
form_items (Crashes i) = item.Crash i ∷ []

-- a form of a process that is there, and of no more items than are left
abbrev pub admitted : ℕ → ℕ → ℕ → ItemForm → Result ItemForm ScheduleRefusal
admitted n left line form =
    if not (nat_le 1 (form_process form) && nat_le (form_process form) n) then Err (refusal.NoSuchProcess line) else
    if nat_lt left (form_count form) then Err (refusal.TooManyItems line) else Ok form

-- the items of the lines, of which so many may still come
abbrev pub items_of : ℕ → ℕ → List TextLine → Result (List Item) ScheduleRefusal
items_of n left [] = Ok []
items_of n left (line ∷ lines) =
    form_or (refusal.BadItem line.number) item_form line.tokens >>= λ form. admitted n left line.number form >>= λ f.
    items_of n (left - form_count f) lines >>= λ items. Ok (form_items f ++ items)

-- the schedule that the lines are, or why not
abbrev pub schedule_of_lines : List TextLine → Result Schedule ScheduleRefusal
schedule_of_lines [] = Err refusal.BadShape
schedule_of_lines (line ∷ lines) =
    form_or refusal.BadShape shape_form line.tokens >>= λ shape. items_of shape.n max_items lines >>= λ items.
    Ok (record { shape = shape; items = items })

-- the most bytes of a schedule's text, and of a text of scripts
abbrev pub max_schedule : ℕ
max_schedule = 4194304

-- the parsed schedule of a text, or its first refusal
abbrev pub schedule_of : List ℕ → Result Schedule ScheduleRefusal
schedule_of text = if nat_lt max_schedule (length text) then Err refusal.TooLong else schedule_of_lines (text_lines text)
