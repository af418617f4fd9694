-- Leaving items out of a failing schedule (`without`) leaves a shorter schedule; and steps of `Shrinks` and
-- `IsShrunk` follow one another.
use Rattle.std.proofs.Common.{◌≡◌, ℕ, zero, suc, ◌+◌, ◌-◌, ◌<◌, ◌≤◌, List, [], ◌∷◌, ◌++◌, Bool, true, false, Option, Some}
use Rattle.std.proofs.Common.{None, is_some, drop, get_or, length, take, sym, ap, subst, ◌∙◌, arith}
use Rattle.std.specs.Prelude.{IsTrue}
use Rattle.std.proofs.lemmas.List.{drop_all, length-append, length-drop, length-take-le}
use Rattle.std.proofs.lemmas.List.Elements.{All-append, All-drop, All-from_recursion, All-take, recursion_from_All}
use Rattle.std.specs.List.{AllByRecursion}
use Rattle.snap_words.specs.Shape.{Counts, IsOneOf}
use Rattle.snap_semantics.specs.declared.process.Item.{Item}
use Rattle.snap_semantics.specs.Schedule.{Schedule}
use Rattle.snap_semantics.specs.ScheduleText.{FitsItem, IsSchedule}
use Rattle.snap_semantics.specs.Table.{who}
use Rattle.snap_semantics.specs.Source.{Source}
use Rattle.snap_runs.specs.Run.{run_over}
use Rattle.snap_hunt.specs.Finding.{Finds}
use Rattle.snap_hunt.specs.declared.failures.Failure.{Failure}
use Rattle.snap_hunt.specs.declared.failures.Wanted.{Wanted}
use Rattle.snap_hunt.specs.Shrinking.{Fails, FailsWith, HoldsWith, IsShrunk, Shrinks, TellsWhether, without}

-- whether a candidate fails, if that is what a test tells
pub told : (l : Source) (w : Wanted) (shape : Counts) (xs : List Item) (s : Schedule) (found : Option Failure) (b : Bool) →
    s ≡ record { shape = shape; items = xs } → Finds w (run_over l s) found → b ≡ is_some found →
    TellsWhether l w shape xs b
unfolding FailsWith HoldsWith
told l w shape xs s None b is h same = rw same (rw is at h)
told l w shape xs s (Some f) b is h same = rw same (f, rw is at h)

-- a candidate fails if the test says so
pub told_so : (l : Source) (w : Wanted) (shape : Counts) (xs ys : List Item) (b : Bool) → TellsWhether l w shape xs b →
    b ≡ true → xs ≡ ys → FailsWith l w shape ys
told_so l w shape xs ys b h so same = rw (so, same) at h

-- a candidate does not fail if the test says so
pub told_not : (l : Source) (w : Wanted) (shape : Counts) (xs ys : List Item) (b : Bool) → TellsWhether l w shape xs b →
    b ≡ false → xs ≡ ys → HoldsWith l w shape ys
told_not l w shape xs ys b h so same = rw (so, same) at h

-- items of a schedule whose run fails
pub fails_by : (l : Source) (w : Wanted) (shape : Counts) (xs : List Item) (b : Bool) →
    IsSchedule (record { shape = shape; items = xs }) → TellsWhether l w shape xs b → IsTrue b → Fails l w shape xs
fails_by l w shape xs b schedule h so = record { schedule = schedule; fails = rw so at h }

all_without : (P : Item → Type 0) (at count : ℕ) (xs : List Item) → AllByRecursion P xs →
    AllByRecursion P (without at count xs)
all_without P at count xs h =
    let all = All-from_recursion P xs h in
    recursion_from_All P (without at count xs)
    (All-append P (take at xs) (drop (at + count) xs) (All-take P at xs all) (All-drop P (at + count) xs all))

-- nothing is behind the end
pub past_end : (n : ℕ) (xs : List Item) → length xs ≤ n → drop n xs ≡ []
past_end n xs le = drop_all n xs le

-- how many are left
pub length_without : (at count : ℕ) (xs : List Item) → at ≤ length xs →
    length (without at count xs) ≡ at + (length xs - (at + count))
length_without at count xs le =
    let front = length-take-le at xs le in
    omega (arith, length-append (take at xs) (drop (at + count) xs), length-drop (at + count) xs, front)

-- what is left of the items of a schedule is one
pub left_schedule : (shape : Counts) (at count : ℕ) (xs ys : List Item) →
    IsSchedule (record { shape = shape; items = xs }) → at ≤ length xs → ys ≡ without at count xs
    → IsSchedule (record { shape = shape; items = ys })
left_schedule shape at count xs ys h le is = rw is (record {
  shape = h.shape;
  processes = all_without (λ x. IsOneOf shape.n (who x)) at count xs h.processes;
  few = omega (arith, h.few, length_without at count xs le);
  fits = all_without FitsItem at count xs h.fits;
})

-- what is left, where it still fails
pub left_fails : (l : Source) (w : Wanted) (s : Schedule) (shape : Counts) (at count : ℕ) (xs ys : List Item) →
    Shrinks l w s (record { shape = shape; items = xs })
    → at ≤ length xs → ys ≡ without at count xs → FailsWith l w shape (without at count xs) →
    Shrinks l w s (record { shape = shape; items = ys })
left_fails l w s shape at count xs ys h le is fails = record {
  still = record { schedule = left_schedule shape at count xs ys h.still.schedule le is; fails = rw is fails };
  within = record {
    processes = h.within.processes;
    words = h.within.words;
    items = omega (arith, h.within.items, ap length is, length_without at count xs le);
  };
}

-- what is left of a candidate is shorter
pub left_shorter : (at count : ℕ) (xs ys : List Item) → at < length xs → 0 < count →
    ys ≡ without at count xs → length ys < length xs
left_shorter at count xs ys lt some is = omega (arith, ap length is, length_without at count xs (omega arith))

-- from a schedule whose run fails to itself
pub itself : (l : Source) (w : Wanted) (s : Schedule) → Fails l w s.shape s.items → Shrinks l w s s
itself l w s h = record { still = h; within = omega arith }

-- one after another
pub onward : (l : Source) (w : Wanted) (s t u : Schedule) → Shrinks l w s t → Shrinks l w t u → Shrinks l w s u
onward l w s t u h k = record { still = k.still; within = omega (arith, h.within, k.within) }

-- passes that shrink a schedule lead to a shrunk one in the end
pub onward_small : (l : Source) (w : Wanted) (s t u : Schedule) → Shrinks l w s t → IsShrunk l w t u → IsShrunk l w s u
onward_small l w s t u h k = record { shrinks = onward l w s t u h k.shrinks; small = k.small }
