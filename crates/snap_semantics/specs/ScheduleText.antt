-- The canonical text of a schedule: its shape, and then each greatest run of steps of one process, each call and each
-- crash on a line.
use Rattle.std.specs.Prelude.{ℕ, suc, ◌≤◌, ◌<◌, ◌^◌, ⊤, List, [], ◌∷◌, ◌++◌, length, map, nat_eq, if◌then◌else◌}
use Rattle.std.specs.List.{AllByRecursion}
use Rattle.snap_words.specs.Shape.{IsOneOf, IsShape, max_items}
use Rattle.snap_semantics.specs.declared.process.Item.{Item}
use Rattle.snap_semantics.specs.declared.process.Item.TheVariants as item
use Rattle.snap_semantics.specs.declared.process.Op.{Op}
use Rattle.snap_semantics.specs.declared.process.Op.TheVariants as op
use Rattle.snap_semantics.specs.Layout.{line_text, lines_text}
use Rattle.snap_semantics.specs.Schedule.{Schedule}
use Rattle.snap_semantics.specs.ScheduleForms.{ItemForm, Steps, Calls, Crashes, spelled_shape, spelled_form}
use Rattle.snap_semantics.specs.Table.{who}

-- a step goes into the run of its process where that comes next
abbrev pub step_onto : ℕ → List ItemForm → List ItemForm
step_onto i [] = Steps i 1 ∷ []
step_onto i (Steps k count ∷ forms) =
    if nat_eq i k then Steps k (suc count) ∷ forms else Steps i 1 ∷ Steps k count ∷ forms
step_onto i (Calls k op ∷ forms) = Steps i 1 ∷ Calls k op ∷ forms
step_onto i (Crashes k ∷ forms) = Steps i 1 ∷ Crashes k ∷ forms

abbrev pub item_onto : Item → List ItemForm → List ItemForm
item_onto (item.Step i) forms = step_onto i forms
item_onto (item.Call i op) forms = Calls i op ∷ forms
item_onto (item.Crash i) forms = Crashes i ∷ forms

-- the greatest segments: steps of one process side by side, the calls and the crashes
abbrev pub forms_of : List Item → List ItemForm
forms_of [] = []
forms_of (x ∷ xs) = item_onto x (forms_of xs)

-- the lines of forms
abbrev pub forms_text : List ItemForm → List ℕ
forms_text forms = lines_text (map spelled_form forms)

-- the canonical text of a schedule
abbrev pub schedule_text : Schedule → List ℕ
schedule_text s = line_text (spelled_shape s.shape) ++ forms_text (forms_of s.items)

-- the numbers of an operation have 64 bits
abbrev pub FitsWords : Op → Type 0
FitsWords op.Scan = ⊤
FitsWords (op.Update word value) = (word < 2 ^ 64) × (value < 2 ^ 64)

-- the numbers of an item have 64 bits, as those of the machine have
abbrev pub FitsItem : Item → Type 0
FitsItem (item.Step i) = ⊤
FitsItem (item.Call i o) = FitsWords o
FitsItem (item.Crash i) = ⊤

-- what a schedule keeps: its processes are there, there are at most a million items, and their numbers have 64 bits
pub record IsSchedule (s : Schedule) : Type 0 where
  pub shape : IsShape s.shape.n s.shape.w
  pub processes : AllByRecursion (λ x. IsOneOf s.shape.n (who x)) s.items
  pub few : length s.items ≤ max_items
  pub fits : AllByRecursion FitsItem s.items
