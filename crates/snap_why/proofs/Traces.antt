-- The trace of a run has a step for each item, and each is of one of the processes.
use Rattle.std.proofs.Common.{◌≡◌, ◌+◌, ◌<◌, ◌≤◌, ℕ, zero, suc, List, [], ◌∷◌, length, IfSome}
use Rattle.std.proofs.Common.{refl, ap, take, arith}
use Rattle.std.specs.List.{AllByRecursion}
use Rattle.snap_words.specs.Shape.{Counts, IsOneOf}
use Rattle.snap_semantics.specs.declared.process.Item.{Item}
use Rattle.snap_semantics.specs.Source.{Source}
use Rattle.snap_semantics.specs.State.{State, initial}
use Rattle.snap_semantics.specs.Table.{done, who}
use Rattle.std.proofs.Math.Seq.{take-length}
use Rattle.snap_semantics.specs.Run.{after}
use Rattle.snap_semantics.specs.Schedule.{Schedule}
use Rattle.snap_semantics.specs.ScheduleText.{IsSchedule}
use Rattle.snap_runs.specs.Run.{Run, run_over, state}
use Rattle.snap_record.specs.Record.{with_items}
use Rattle.snap_acts.specs.Trace.{step_of, steps_of, trace_of}
use Rattle.snap_acts.specs.declared.act.Act.{Act}
use Rattle.snap_acts.specs.declared.act.Act.TheVariants as act
use Rattle.snap_acts.specs.Loans.{step_at}
use Rattle.snap_why.specs.Why.{trapped_at, trapped_by}

many : (s : Source) (n : Counts) (S : State) (t : ℕ) (xs : List Item) → length (steps_of s n S t xs) ≡ length xs
many s n S t [] = refl
many s n S t (x ∷ xs) = ap suc (many s n (done s n S x).0 (t + 1) xs)

-- as many steps as items
pub as_many : (s : Source) (d : Schedule) → length (trace_of (run_over s d)) ≡ length d.items
as_many s d = many s d.shape (initial s d.shape) 1 d.items

-- the process of a step that is there is one
each : (s : Source) (n : Counts) (S : State) (t : ℕ) (xs : List Item) (k : ℕ) →
    AllByRecursion (λ (x : Item). IsOneOf n.n (who x)) xs → k < length xs →
    IsOneOf n.n (step_at (steps_of s n S t xs) k).process
unfolding step_of
each s n S t [] k all less = absurd (omega arith)
each s n S t (x ∷ xs) zero all less = all.0
each s n S t (x ∷ xs) (suc k) all less = each s n (done s n S x).0 (t + 1) xs k all.1 (omega arith)

by_act : (n i : ℕ) (a : Act) → IsOneOf n i → IfSome (trapped_by i a) (λ (j : ℕ). IsOneOf n j)
by_act n i act.Trap one = one
by_act n i _ one = tt

-- a process that traps at an item is one
pub trapped_one : (s : Source) (d : Schedule) (t : ℕ) → IsSchedule d → t ≤ length d.items →
    IfSome (trapped_at (trace_of (run_over s d)) t) (λ (i : ℕ). IsOneOf d.shape.n i)
trapped_one s d zero right within = tt
trapped_one s d (suc k) right within =
    by_act d.shape.n _ _ (each s d.shape (initial s d.shape) 1 d.items k right.processes (omega arith))

-- the run of the first items ends as that of all is after them
pub first_items : (r : Run) (s : Source) (d : Schedule) (c : ℕ) →
    r ≡ with_items (record { source = s; shape = d.shape; items = [] }) (take c d.items) →
    state r (length r.items) ≡ state (run_over s d) c
first_items r s d c e =
    rw e (ap (λ (xs : List Item). after s d.shape (initial s d.shape) xs) (take-length (take c d.items)))
