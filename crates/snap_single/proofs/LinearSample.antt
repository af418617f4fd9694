-- A worked linearization of a run of listing U: process 2 updates twice while process 1 scans, and the scan borrows
-- the view of the second update.
use Rattle.std.proofs.Common.{◌≡◌, ◌⊎◌, ℕ, ◌<◌, ◌≤◌, Bool, true, false, List, [], ◌∷◌, Option, Some, None}
use Rattle.std.proofs.Common.{length, nat_le, refl, ◌∙◌, sym, ap, subst, arith, inl, inr}
use Rattle.std.specs.List.{Contains}
use Rattle.std.proofs.lemmas.List.Elements.{All-from_recursion}
use Rattle.snap_runs.proofs.Common.{Item, Step, Call, Crash, Scan, Update, Answered, Run, item}
use Rattle.snap_runs.specs.Linearization.{RunsFrom, KeepsOrder, IsLinearization}
use Rattle.snap_runs.specs.Operation.{Sets, Sees, Operation, IsOperation, EndedBefore}
use Rattle.snap_runs.specs.Scan.{FinishedScan}
use Rattle.snap_runs.proofs.OneOperation.{has_call, one_operation}
use Rattle.snap_runs.proofs.Order.{Pairs, Apart, all_pairs, keeps_order}
use Rattle.snap_runs.proofs.Worked.{finished_scan, finished_update, one_of_three}
use Rattle.snap_runs_of_u.specs.Promises.{run_of}
use Rattle.snap_single.proofs.Samples.{scan_borrows}

abbrev pub run : Run
run = run_of 2 scan_borrows

-- the operations of the run, with their items
abbrev pub scan : Operation
scan = record { process = 1; call = 1; end = Some 64; action = Sees (0 ∷ 5 ∷ []) }

abbrev pub first_update : Operation
first_update = record { process = 2; call = 8; end = Some 25; action = Sets 2 5 }

abbrev pub second_update : Operation
second_update = record { process = 2; call = 38; end = Some 55; action = Sets 2 6 }

abbrev pub is_call : Item → Bool
is_call (Call i op) = true
is_call (Step i) = false
is_call (Crash i) = false

pub scan_took_place : FinishedScan run 1 None 1 64 (0 ∷ 5 ∷ [])
scan_took_place =
    finished_scan run 1 1 63 (0 ∷ 5 ∷ []) (omega arith, omega arith) (omega arith) (omega arith) (omega arith)
    (refl, refl) (refl, refl) refl

pub first_update_took_place : IsOperation run first_update
first_update_took_place =
    finished_update run 2 2 5 8 24 (omega arith, omega arith) (omega arith) (omega arith) (omega arith) refl refl
    (refl, refl) refl

pub second_update_took_place : IsOperation run second_update
second_update_took_place =
    finished_update run 2 2 6 38 54 (omega arith, omega arith) (omega arith) (omega arith) (omega arith) refl refl
    (refl, refl) refl

-- The scan takes place between the updates, at its point.
abbrev pub linearized : List Operation
linearized = first_update ∷ scan ∷ second_update ∷ []

linearized_runs : RunsFrom (0 ∷ 0 ∷ []) linearized
linearized_runs = ((omega arith, omega arith), (refl, ((omega arith, omega arith), tt)))

-- an operation with this end has not ended before item c
abbrev pub goes_past : ℕ → Option ℕ → Bool
goes_past c None = true
goes_past c (Some e) = nat_le c e

pub not_before : (first second : Operation) → goes_past second.call first.end ≡ true → EndedBefore first second → ⊥
not_before first second late ended =
    let past : nat_le second.call ended.0 ≡ true = sym (ap (goes_past second.call) ended.1) ∙ late in grind arith

apart : Pairs Apart linearized
apart = (
  (
    (λ same. omega arith, not_before scan first_update refl),
    ((λ same. omega arith, not_before second_update first_update refl), tt),
  ),
  (((λ same. omega arith, not_before second_update scan refl), tt), (tt, tt)),
)

linearized_in_order : KeepsOrder linearized
linearized_in_order =
    keeps_order linearized (
      not_before first_update first_update refl,
      (not_before scan scan refl, (not_before second_update second_update refl, tt)),
    )
    apart

-- The object answers otherwise where the scan stands after both updates, or before them.
after_both : RunsFrom (0 ∷ 0 ∷ []) (first_update ∷ second_update ∷ scan ∷ []) → ⊥
after_both h =
    let view : ◌≡◌ {A = List ℕ} (0 ∷ 5 ∷ []) (0 ∷ 6 ∷ []) = h.1.1.0 in
    let same : ◌≡◌ {A = ℕ} 5 6 = cc in
    omega arith

before_both : RunsFrom (0 ∷ 0 ∷ []) (scan ∷ first_update ∷ second_update ∷ []) → ⊥
before_both h =
    let view : ◌≡◌ {A = List ℕ} (0 ∷ 5 ∷ []) (0 ∷ 0 ∷ []) = h.0 in
    let same : ◌≡◌ {A = ℕ} 5 0 = cc in
    omega arith

-- The run has no other calls, so no other operations.
call_at : (c : ℕ) → 0 < c → c ≤ 64 → is_call (item run c) ≡ true → (c ≡ 1) ⊎ ((c ≡ 8) ⊎ (c ≡ 38))
call_at c pos le call = one_of_three (λ t. is_call (item run t)) 0 7 37 64 c refl refl refl refl pos le call

-- In a run with three calls there are three operations.
pub one_of_three_operations : (r : Run) (x y z : Operation) → IsOperation r x → IsOperation r y → IsOperation r z →
    ((c : ℕ) → 0 < c → c ≤ length r.items → is_call (item r c) ≡ true →
    (c ≡ x.call) ⊎ ((c ≡ y.call) ⊎ (c ≡ z.call))) →
    (o : Operation) → IsOperation r o → (o ≡ x) ⊎ ((o ≡ y) ⊎ (o ≡ z))
one_of_three_operations r x y z is_x is_y is_z calls o took =
    let called = has_call r o took in
    elim (calls o.call called.first called.last (ap is_call called.is)) [
      | inl is ↦ inl (one_operation r o x took is_x is)
      | inr more ↦ elim more [
        | inl is ↦ inr (inl (one_operation r o y took is_y is))
        | inr is ↦ inr (inr (one_operation r o z took is_z is))
      ]
    ]

contains_each : (o : Operation) → (o ≡ scan) ⊎ ((o ≡ first_update) ⊎ (o ≡ second_update)) → Contains linearized o
contains_each o (inl is) = subst (Contains linearized) (sym is) (1, omega arith, refl)
contains_each o (inr (inl is)) = subst (Contains linearized) (sym is) (0, omega arith, refl)
contains_each o (inr (inr is)) = subst (Contains linearized) (sym is) (2, omega arith, refl)

pub contains : (o : Operation) → IsOperation run o → Contains linearized o
contains o took =
    contains_each o (one_of_three_operations run scan first_update second_update scan_took_place first_update_took_place
    second_update_took_place call_at o took)

-- The list is a linearization of the run.
pub is_linearization : IsLinearization run linearized
is_linearization = record {
  took_place = All-from_recursion (IsOperation run) linearized (
    first_update_took_place,
    (scan_took_place, (second_update_took_place, tt)),
  );
  once = λ i j d lt short. (all_pairs Apart linearized apart i j d lt short).0;
  complete = λ o took ended. contains o took;
  order = linearized_in_order;
  runs = linearized_runs;
}

-- The empty list is none: the scan has ended, and is not there.
not_empty : IsLinearization run [] → ⊥
not_empty h =
    let there = h.complete scan scan_took_place (64, refl) in
    let lt : there.0 < 0 = there.1 in omega arith

-- Another answer is none of the run's, and no update was called at item 9; there the embedded scan
-- starts, which is no operation.
wrong_answer : IsOperation run (record { process = 1; call = 1; end = Some 64; action = Sees (0 ∷ 6 ∷ []) }) → ⊥
wrong_answer took =
    let out : Answered (0 ∷ 5 ∷ []) ≡ Answered (0 ∷ 6 ∷ []) = took.ends.1 in
    let same : ◌≡◌ {A = ℕ} 5 6 = cc in omega arith

never_called : IsOperation run (record { process = 2; call = 9; end = Some 25; action = Sets 2 5 }) → ⊥
never_called took = let call : Step 2 ≡ Call 2 (Update 2 5) = took.0.call in cc

embedded : (e : ℕ) (view : List ℕ) →
    IsOperation run (record { process = 2; call = 9; end = Some e; action = Sees view }) → ⊥
embedded e view took = let call : Step 2 ≡ Call 2 Scan = took.scan.starts.0 in cc
