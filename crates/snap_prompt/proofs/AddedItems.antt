-- The first items of a schedule, with the items of an addition after them, are a schedule again, if they are not too
-- many.
use Rattle.std.proofs.Common.{◌≡◌, ◌≤◌, ◌+◌, ◌-◌, ℕ, List, ◌++◌, length, take, Ok, refl, arith}
use Rattle.std.proofs.lemmas.List.{length-append}
use Rattle.std.specs.List.{AllByRecursion}
use Rattle.snap_words.specs.Shape.{Counts, IsOneOf}
use Rattle.snap_semantics.specs.declared.process.Item.{Item}
use Rattle.snap_semantics.specs.Schedule.{Schedule, admitted, form_count, form_items}
use Rattle.snap_semantics.specs.ScheduleForms.{ItemForm}
use Rattle.snap_semantics.specs.ScheduleText.{FitsItem, IsSchedule}
use Rattle.snap_semantics.specs.Table.{who}
use Rattle.snap_sched.proofs.Lines.{all_form, all_more, is_admitted, length_items}
use Rattle.snap_runs.proofs.Within.{taken_within}

pub is_schedule : (s : Schedule) (shape : Counts) (n t line : ℕ) (form f : ItemForm) (items : List Item) →
    shape ≡ s.shape → n ≡ shape.n → IsSchedule s → t ≤ length s.items → admitted n (1000000 - t) line form ≡ Ok f →
    items ≡ take t s.items ++ form_items f → AllByRecursion FitsItem items →
    IsSchedule (record { shape = shape; items = items })
is_schedule s shape n t line form f items same count known within found made fits =
    let P : ℕ → Type 0 = λ i. IsOneOf s.shape.n i in
    let admits = is_admitted s.shape.n (1000000 - t) line form f (rw (← same, ← count) found) in
    let olds = taken_within t (λ (x : Item). P (who x)) s.items known.processes in
    let many : length items ≡ length (take t s.items) + form_count f = rw (made, length-append, length_items) refl in
    let small = known.few in
    rw same (record {
      shape = known.shape;
      processes = rw made (all_more P (take t s.items) (form_items f) olds.1 (all_form P f admits.0));
      few = omega arith;
      fits = fits;
    })
