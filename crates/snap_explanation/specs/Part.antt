-- `part_place`: the part of an input (its listing or one of its texts) that a refusal is about, and how many lines
-- precede it.
use Rattle.std.specs.Prelude.{ℕ, ◌+◌, ◌-◌, ◌^◌, min, Bool, true, false, List, [], ◌∷◌}
use Rattle.std.specs.Prelude.{length, Result, Ok, Err, nat_eq, if◌then◌else◌}
use Rattle.snap_semantics.specs.declared.refusal.Refusal.{Refusal}
use Rattle.snap_semantics.specs.declared.refusal.Refusal.TheVariants as refusal
use Rattle.snap_semantics.specs.declared.refusal.ScheduleRefusal.{ScheduleRefusal}
use Rattle.snap_semantics.specs.Schedule.{Schedule, schedule_of}
use Rattle.snap_semantics.specs.Token.{lines_of}
use Rattle.snap_input.specs.Input.{texts_for}
use Rattle.snap_input.specs.Parts.{part, parts_of}
use Rattle.snap_tasks.specs.declared.subject.Subject.{Subject}
use Rattle.snap_tasks.specs.declared.subject.Subject.TheVariants as subject
use Rattle.snap_tasks.specs.declared.task.Task.TheVariants as task
use Rattle.snap_tasks.specs.declared.request.Request.{Request}
use Rattle.snap_tasks.specs.declared.judge_request.JudgeSource.{JudgeSource}
use Rattle.snap_tasks.specs.declared.judge_request.JudgeSource.TheVariants as source
use Rattle.snap_tasks.specs.declared.request.Request.TheVariants.{Do, Live, Judge, Model}
use Rattle.snap_explanation.specs.declared.layout.Layout.{Layout}
use Rattle.snap_explanation.specs.declared.layout.Layout.TheVariants as layout
use Rattle.snap_explanation.specs.declared.layout.Texts.{Texts}
use Rattle.snap_explanation.specs.declared.layout.Texts.TheVariants as texts
use Rattle.snap_explanation.specs.declared.part.PartName.{PartName}
use Rattle.snap_explanation.specs.declared.part.PartName.TheVariants as name

-- what the input consists of where this is judged
abbrev pub judged_layout : JudgeSource → Layout
judged_layout (source.Run s) = layout.Parts s texts.Schedule
judged_layout source.History = layout.History

-- what the input consists of where this is asked for
abbrev pub layout_of : Request → Layout
layout_of (Do task.Check) = layout.Listing
layout_of (Do task.Lint) = layout.Listing
layout_of (Do task.Assemble) = layout.Listing
layout_of (Do task.List) = layout.Image
layout_of (Do task.Upgrade) = layout.Image
layout_of (Do (task.Run s)) = layout.Parts s texts.Schedule
layout_of (Do (task.Trace s)) = layout.Parts s texts.Schedule
layout_of (Do (task.Debug s)) = layout.Parts s texts.ScheduleAndCommands
layout_of (Do (task.Audit s)) = layout.Parts s texts.Schedule
layout_of (Do (task.Certify s)) = layout.Parts s texts.Schedule
layout_of (Do (task.Batch s)) = layout.Parts s texts.Schedules
layout_of (Do (task.Survey s)) = layout.Parts s texts.Schedules
layout_of (Live s limit) = layout.Parts s texts.Scripts
layout_of (Judge r) = judged_layout r.source
layout_of (Model s crashes) = layout.Parts s texts.Scripts

-- a part: what it is, how many lines of the input stand before it, and its bytes
pub record Part : Type 0 where
  pub name : PartName
  pub before : ℕ
  pub text : List ℕ

-- the number of the first part behind the listing, from 0
abbrev pub first_text : Subject → ℕ
first_text subject.FirstPart = 1
first_text (subject.Shipped g) = 0

-- whether a schedule is none that is refused for its form, or for its shape where shapes are refused
abbrev pub is_taken : Bool → Result Schedule ScheduleRefusal → Bool
is_taken shapes (Err r) = false
is_taken true (Ok s) = nat_eq s.shape.w s.shape.n
is_taken false (Ok s) = true

-- the number of the first schedule that is refused, where the first of them is number k
abbrev pub refused_schedule : Bool → (k : ℕ) → List (List ℕ) → ℕ
refused_schedule shapes k [] = k
refused_schedule shapes k (t ∷ ts) = if is_taken shapes (schedule_of t) then refused_schedule shapes (k + 1) ts else k

-- whether schedules are refused for their shapes
abbrev pub is_of_shapes : Refusal → Bool
is_of_shapes (refusal.Words f) = true
is_of_shapes _ = false

-- which of the texts behind the listing is refused, from 0
abbrev pub text_index : Texts → Refusal → List (List ℕ) → ℕ
text_index texts.Schedules r ts = refused_schedule (is_of_shapes r) 0 ts
text_index _ (refusal.Commands c) ts = 1
text_index _ _ ts = 0

-- which part is refused, from 0
abbrev pub part_index : Subject → Texts → Refusal → List (List ℕ) → ℕ
part_index s t (refusal.Listing r) parts = 0
part_index s t r parts = first_text s + text_index t r (texts_for s parts)

abbrev pub text_name : Texts → Refusal → ℕ → PartName
text_name texts.Schedules r k = name.NthSchedule (k + 1)
text_name texts.Scripts r k = name.Scripts
text_name _ (refusal.Commands c) k = name.Commands
text_name _ _ k = name.Schedule

abbrev pub part_name : Subject → Texts → Refusal → List (List ℕ) → PartName
part_name s t (refusal.Listing r) parts = name.Listing
part_name s t r parts = text_name t r (text_index t r (texts_for s parts))

-- the lines of a part and the line `%` behind it, behind so many lines; a number of lines has 64 bits
abbrev pub lines_through : (before : ℕ) → List ℕ → ℕ
lines_through before p = min (min (before + length (lines_of p)) (2 ^ 64 - 1) + 1) (2 ^ 64 - 1)

-- how many lines stand before part k, where so many stand before the first one
abbrev pub lines_before : (k before : ℕ) → List (List ℕ) → ℕ
lines_before k before [] = before
lines_before k before (p ∷ parts) = if nat_eq k 0 then before else lines_before (k - 1) (lines_through before p) parts

abbrev pub part_place_in : Subject → Texts → Refusal → List (List ℕ) → Part
part_place_in s t r parts =
    record {
      name = part_name s t r parts;
      before = lines_before (part_index s t r parts) 0 parts;
      text = part (part_index s t r parts) parts;
    }

-- an input without parts
abbrev pub whole_part : PartName → List ℕ → Part
whole_part n input = record { name = n; before = 0; text = input }

-- the part that is refused
abbrev pub part_place : Layout → List ℕ → Refusal → Part
part_place (layout.Parts s t) input r = part_place_in s t r (parts_of input)
part_place layout.NamedSchedule input r = whole_part name.Schedule input
part_place _ input r = whole_part name.Listing input
