-- What is seen to fail in a run: a scan without a point or of too many double collects, a trap, or an operation of too
-- many steps of its own.
use Rattle.std.specs.Prelude.{ℕ, zero, suc, Bool, ◌&&◌, List, [], ◌∷◌, length, Option}
use Rattle.std.specs.Prelude.{Some, None, is_none, nat_lt, if◌then◌else◌}
use Rattle.snap_words.specs.Shape.{Counts}
use Rattle.snap_words.specs.declared.kind.KindTag.{KindTag}
use Rattle.snap_semantics.specs.declared.process.Status.{Status}
use Rattle.snap_semantics.specs.declared.process.Status.TheVariants.{Trapped}
use Rattle.snap_semantics.specs.Rules.{or_else}
use Rattle.snap_semantics.specs.State.{State, process_at}
use Rattle.snap_semantics.specs.Table.{who}
use Rattle.snap_runs.specs.Audit.{audit, last_call}
use Rattle.snap_runs.specs.Run.{Run, item, state}
use Rattle.snap_runs.specs.Scan.{own_steps, takes_step}
use Rattle.snap_runs.specs.declared.verdict.Verdict.{Verdict}
use Rattle.snap_shipped.specs.Kept.{update_turns}
use Rattle.snap_hunt.specs.Firsts.{asks_update, first_found}
use Rattle.snap_hunt.specs.declared.failures.Failure.{Failure}
use Rattle.snap_hunt.specs.declared.failures.Failure.TheVariants as failure
use Rattle.snap_hunt.specs.declared.failures.OwnSteps.{OwnSteps}
use Rattle.snap_hunt.specs.declared.failures.StepBound.{StepBound}
use Rattle.snap_hunt.specs.declared.failures.StepBound.TheVariants as bound
use Rattle.snap_hunt.specs.declared.failures.Wanted.{Wanted}

-- the first scan that has no point
abbrev pub no_point : List Verdict → Option Failure
no_point [] = None
no_point (v ∷ vs) = if is_none v.point then Some (failure.NoPoint v) else no_point vs

-- the first scan that made more than so many double collects
abbrev pub many_collects : ℕ → List Verdict → Option Failure
many_collects most [] = None
many_collects most (v ∷ vs) = if nat_lt most v.collects then Some (failure.ManyCollects v) else many_collects most vs

-- that process i has trapped, if it has
abbrev pub trap_of : ℕ → Status → Option Failure
trap_of i (Trapped cause a) = Some (failure.Trapped i a.line cause)
trap_of i _ = None

-- the first of so many processes, from process i on, that has trapped in a state
abbrev pub first_trap : State → (i : ℕ) → ℕ → Option Failure
first_trap S i zero = None
first_trap S i (suc more) = or_else (trap_of i (process_at S i).status) (first_trap S (suc i) more)

-- the operation that process i called last by item t, and how many steps of its own the process has taken in it: the
-- step items of the process after the call and up to item t that are not skipped
abbrev pub steps_since_call : Run → (i t : ℕ) → OwnSteps
steps_since_call r i t = record {
  update = asks_update (item r (last_call r i t));
  call = last_call r i t;
  count = own_steps r i (last_call r i t) t;
}

-- that an operation of process i has taken more than `most` steps by item t, if the item is a step
abbrev pub overrun : (most i t : ℕ) → Bool → OwnSteps → Option Failure
overrun most i t step own = if step && nat_lt most own.count then Some (failure.ManySteps i t own) else None

abbrev pub overrun_at : Run → (most t : ℕ) → Option Failure
overrun_at r most t =
    overrun most (who (item r t)) t (takes_step r (who (item r t)) t) (steps_since_call r (who (item r t)) t)

-- the first operation that takes more than so many steps, whether it ends or not
abbrev pub many_steps : ℕ → Run → Option Failure
many_steps most r = first_found (overrun_at r most) (length r.items)

-- how many steps an operation may take
abbrev pub most_steps : KindTag → Counts → StepBound → ℕ
most_steps g s bound.Shipped = update_turns g s
most_steps g s (bound.Given most) = most

-- each of these where it is asked for
abbrev pub of_points : Wanted → List Verdict → Option Failure
of_points w vs = if w.point then no_point vs else None

abbrev pub of_traps : Wanted → State → ℕ → Option Failure
of_traps w S n = if w.trap then first_trap S 1 n else None

abbrev pub long_of : Run → Option StepBound → Option Failure
long_of r None = None
long_of r (Some b) = many_steps (most_steps r.source.kind r.shape b) r

abbrev pub of_steps : Wanted → Run → Option Failure
of_steps w r = long_of r w.steps

abbrev pub many_of : List Verdict → Option ℕ → Option Failure
many_of vs None = None
many_of vs (Some most) = many_collects most vs

abbrev pub of_collects : Wanted → List Verdict → Option Failure
of_collects w vs = many_of vs w.collects

-- what is seen in a run, the first that is asked for
abbrev pub first_seen : Wanted → Run → Option Failure
first_seen w r =
    or_else (of_points w (audit r))
    (or_else (of_traps w (state r (length r.items)) r.shape.n) (or_else (of_steps w r) (of_collects w (audit r))))
