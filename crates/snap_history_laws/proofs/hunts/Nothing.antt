-- Nothing is found in runs that keep the promises of a snapshot, so that a hunt comes to none of them (`FindsNothing`).
use Rattle.std.proofs.Common.{◌≡◌, ℕ, zero, suc, ◌+◌, ◌<◌, ◌≤◌, Bool, true, false, List, [], ◌∷◌, Option}
use Rattle.std.proofs.Common.{Some, None, length, refl, arith}
use Rattle.std.specs.List.{AllByRecursion}
use Rattle.rand_core.specs.Steps.{stream_of}
use Rattle.rand_xoshiro.specs.SplitMix64.{splitmix_steps}
use Rattle.snap_words.specs.Shape.{IsOneOf}
use Rattle.snap_words.specs.declared.kind.KindTag.{KindTag}
use Rattle.snap_semantics.specs.declared.process.Status.{Status}
use Rattle.snap_semantics.specs.State.{State, process_at}
use Rattle.snap_runs.specs.Audit.{HasFoundPoint, audit}
use Rattle.snap_runs.specs.Promises.{HasTrapped}
use Rattle.snap_runs.specs.Run.{IsValidRun, Run, run_of_items, state}
use Rattle.snap_runs.specs.declared.verdict.Verdict.{Verdict}
use Rattle.snap_shipped.specs.Shipped.{shipped}
use Rattle.snap_shipped.specs.Kept.{RunsKeepPromises}
use Rattle.snap_chance.specs.Chance.{items_by, schedule_of, start_of}
use Rattle.snap_chance.proofs.Moving.{are_items}
use Rattle.snap_hunt.specs.Failing.{first_seen, first_trap, no_point}
use Rattle.snap_hunt.specs.Failing.{of_steps, trap_of}
use Rattle.snap_hunt.specs.Finding.{Finds, IsJudgedIf}
use Rattle.snap_hunt.specs.Operations.{StepsAreOfOperations}
use Rattle.snap_hunt.specs.declared.failures.Failure.{Failure}
use Rattle.snap_hunt.specs.declared.failures.Wanted.{Wanted}
use Rattle.snap_judge.specs.Judgement.{FailsAt}
use Rattle.snap_run_judge.specs.RunHistory.{history_of}
use Rattle.snap_history_laws.specs.judgements.ShippedLaws.{ShippedRunsAreSeenLinearizable}
use Rattle.snap_hunt.specs.Hunt.{run_of}
use Rattle.snap_history_laws.specs.hunts.Shipped.{FindsNothing, HuntsFindNone}
use Rattle.snap_history_laws.proofs.hunts.Steps.{no_overrun}
use Rattle.snap_history_laws.proofs.threads.Shipped.{suffices}

-- each verdict has a point
points_found : (vs : List Verdict) → AllByRecursion HasFoundPoint vs → no_point vs ≡ None
points_found [] h = refl
points_found (v ∷ vs) h = let more = points_found vs h.1 in grind arith

-- no process has trapped
not_trapped : (i : ℕ) (s : Status) → (HasTrapped s → ⊥) → trap_of i s ≡ None
not_trapped i s h = grind arith

none_trapped : (S : State) (i more : ℕ) →
    ((j : ℕ) → i ≤ j → j < i + more → HasTrapped (process_at S j).status → ⊥) → first_trap S i more ≡ None
none_trapped S i zero h = refl
none_trapped S i (suc more) h =
    rw (not_trapped i (process_at S i).status (h i (omega arith) (omega arith)))
    (none_trapped S (suc i) more (λ j le lt. h j (omega arith) (omega arith)))

-- where the history of a run never fails, nothing is judged to fail
none_judged : (b : Bool) (r : Run) (judged : Option Failure) → ((k : ℕ) → FailsAt (history_of r) k → ⊥) →
    IsJudgedIf b r judged → judged ≡ None
none_judged false r judged never h = h
none_judged true r None never h = refl
none_judged true r (Some f) never h = absurd (never h.0 h.1)

none_seen : (w : Wanted) (r : Run) → AllByRecursion HasFoundPoint (audit r)
    → ((i t : ℕ) → IsOneOf r.shape.n i → t ≤ length r.items → HasTrapped (process_at (state r t) i).status → ⊥)
    → of_steps w r ≡ None → w.collects ≡ None → first_seen w r ≡ None
none_seen w r points traps steps collects =
    let no_points = points_found (audit r) points in
    let no_traps =
    none_trapped (state r (length r.items)) 1 r.shape.n
    (λ j le lt. traps j (length r.items) (omega arith, omega arith) (omega arith)) in
    grind arith

does_not_fail : (w : Wanted) (r : Run) (found : Option Failure) → ((k : ℕ) → FailsAt (history_of r) k → ⊥) →
    first_seen w r ≡ None → Finds w r found → found ≡ None
does_not_fail w r found never none h =
    let judged = none_judged w.linearizable r h.judged never h.is_judged in rw (h.is, judged) none

pub finds_nothing : StepsAreOfOperations → (g : KindTag) → RunsKeepPromises g → ShippedRunsAreSeenLinearizable g →
    FindsNothing g
unfolding run_of schedule_of
finds_nothing laws g keeps seen p w seed k found plan fit collects enough h =
    let s = stream_of splitmix_steps (start_of seed k) in
    let items = items_by p.depth p k s in
    let these = are_items p.depth p k s plan.shape.0.0 in
    let r = run_of_items (shipped g) p.shape items in
    let valid : IsValidRun r = record { all = these.there } in
    let numbers = suffices g items (omega (arith, plan.few, these.few)) in
    let kept = keeps p.shape items plan.shape fit numbers in
    does_not_fail w r found (seen p.shape items plan.shape fit numbers valid).never_accused
    (none_seen w r (kept.snapshot.verdicts_have_points valid) (kept.snapshot.never_traps valid)
    (no_overrun laws g w.steps r refl valid kept enough) collects) h

pub hunts_find_none : (g : KindTag) → FindsNothing g → HuntsFindNone g
hunts_find_none g nothing p w seed runs None plan fit collects suffices h = refl
hunts_find_none g nothing p w seed runs (Some x) plan fit collects suffices h =
    let none = nothing p w seed x.run (Some x.failure) plan fit collects suffices h.3 in absurd (cc)
