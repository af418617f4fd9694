-- `edited`: the first t items of a schedule with the items of a line added after them, or why the addition is
-- refused.
use Rattle.std.specs.Prelude.{ℕ, ◌-◌, ◌++◌, take, Result, Ok}
use Rattle.snap_words.specs.Shape.{max_items}
use Rattle.snap_semantics.specs.Answers.{◌>>=◌}
use Rattle.snap_semantics.specs.Schedule.{Schedule, admitted, form_items}
use Rattle.snap_semantics.specs.ScheduleForms.{ItemForm, Steps, Calls, Crashes}
use Rattle.snap_semantics.specs.declared.refusal.ScheduleRefusal.{ScheduleRefusal}
use Rattle.snap_prompt.specs.declared.addition.Addition.{Addition}
use Rattle.snap_prompt.specs.declared.addition.Addition.TheVariants as given

-- what is added, as the form of a schedule's line
abbrev pub form_of : Addition → ItemForm
form_of (given.Steps i count) = Steps i count
form_of (given.Call i op) = Calls i op
form_of (given.Crash i) = Crashes i

-- the first t items of a schedule
abbrev pub cut_at : ℕ → Schedule → Schedule
cut_at t s = record { shape = s.shape; items = take t s.items }

-- a schedule with the items of a form behind its own
abbrev pub with_form : ItemForm → Schedule → Schedule
with_form form s = record { shape = s.shape; items = s.items ++ form_items form }

-- The first t items of a schedule, and behind them those of a form: one of its processes, and no more than 1,000,000
-- items in all. A refusal names this line.
unfoldable pub edited : (line t : ℕ) → ItemForm → Schedule → Result Schedule ScheduleRefusal
edited line t form s = admitted s.shape.n (max_items - t) line form >>= λ f. Ok (with_form f (cut_at t s))
