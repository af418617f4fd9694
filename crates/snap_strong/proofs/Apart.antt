-- No order of the operations so far goes on in both futures of U's run: if the scan is in it,
-- its answer is wrong in one of them, and if not, it comes after an update that it does not see.
use Rattle.std.specs.Prelude.{◌≡◌, ℕ, zero, suc, ◌-◌, ◌<◌, ◌≢◌, ◌⊎◌, Bool, true, false, not, ◌&&◌, List, [], ◌∷◌}
use Rattle.std.specs.Prelude.{◌++◌, length, Option, Some, None, nat_eq, slice_index, slice_index_or, slice_set, refl}
use Rattle.std.specs.List.{AllByRecursion}
use Rattle.std.proofs.Common.{sym, ◌∙◌, ap, subst, arith, inl, inr}
use Rattle.std.proofs.lemmas.Bool.{cases_eq, cases_lt}
use Rattle.std.proofs.lemmas.List.{get_or-set_same, get_or-set_other, length-set}
use Rattle.std.proofs.lemmas.List.Elements.{recursion_from_All}
use Rattle.snap_runs.proofs.Common.{IsOneOf, Item, Call, Answered, Run, item, outcome}
use Rattle.snap_semantics.specs.declared.process.Op.TheVariants as op
use Rattle.snap_runs.specs.Update.{PendingUpdate}
use Rattle.snap_runs.specs.Operation.{Action, Sets, Sees, Operation, TookPlace}
use Rattle.snap_runs.specs.Linearization.{after, Allows, RunsFrom}
use Rattle.snap_runs.proofs.Operations.{same_answer}
use Rattle.snap_runs_of_u.specs.Promises.{run_of}
use Rattle.snap_strong.specs.StrongLinearization.{IsOpenScan, IsCompleted, without_end}
use Rattle.snap_strong.specs.Futures.{so_far, alone, overtaken, scan_seeing, update, NoneServesBoth}
use Rattle.snap_strong.proofs.Begins.{begins_at}
use Rattle.snap_strong.proofs.Futures.{update_took_place, alone_answers, overtaken_answers}
use Rattle.snap_runs.proofs.Worked.{none_in}

-- an action that sets word 2 sets it to 5
abbrev SetsFive : Action → Type 0
SetsFive (Sets word value) = word ≡ 2 → value ≡ 5
SetsFive (Sees view) = Unit {0}

-- Once word 2 is 5 it stays so.
stays_five : (values : List ℕ) (a : Action) → SetsFive a → Allows values a → 1 < length values →
    slice_index values 1 ≡ 5 →
    (1 < length (after values a)) × (slice_index (after values a) 1 ≡ 5)
stays_five values (Sets word value) five allows two is =
    let long : length (slice_set values (word - 1) value) ≡ length values = length-set values (word - 1) value in (
      omega arith,
      elim (cases_eq word 2) [
        | inl same ↦ (let at : word - 1 ≡ 1 = omega arith in
            subst (λ y. slice_index (slice_set values y value) 1 ≡ 5) (sym at)
            (get_or-set_same values 1 value 0 two ∙ five same))
        | inr other ↦ get_or-set_other values (word - 1) 1 value 0 (omega arith) ∙ is
      ],
    )
stays_five values (Sees view) five allows two is = (two, is)

-- From there on every scan sees it.
sees_five_on : (values : List ℕ) (os : List Operation) → AllByRecursion (λ o. SetsFive o.action) os →
    1 < length values → slice_index values 1 ≡ 5 →
    RunsFrom values os → (k : ℕ) (d : Operation) (view : List ℕ) → k < length os →
    (slice_index_or os k d).action ≡ Sees view → slice_index view 1 ≡ 5
sees_five_on values [] fives two is runs k d view lt sees = absurd (omega arith)
sees_five_on values (o ∷ os) fives two is runs zero d view lt sees =
    let here : Allows values (Sees view) = subst (Allows values) sees runs.0 in
    ap (λ y. slice_index y 1) here ∙ is
sees_five_on values (o ∷ os) fives two is runs (suc k) d view lt sees =
    let next = stays_five values o.action fives.0 runs.0 two is in
    sees_five_on (after values o.action) os fives.1 next.0 next.1 runs.1 k d view (omega arith) sees

-- A scan that stands behind the update sees 5.
sees_five : (values : List ℕ) (os : List Operation) → AllByRecursion (λ o. SetsFive o.action) os → RunsFrom values os →
    (j k : ℕ) (d e : Operation) (view : List ℕ) →
    j < k → k < length os → (slice_index_or os j d).action ≡ Sets 2 5 →
    (slice_index_or os k e).action ≡ Sees view → slice_index view 1 ≡ 5
sees_five values (o ∷ os) fives runs zero (suc k) d e view before lt sets sees =
    let here : IsOneOf (length values) 2 = subst (Allows values) sets runs.0 in
    let long : length (slice_set values 1 5) ≡ length values = length-set values 1 5 in
    let rest : RunsFrom (slice_set values 1 5) os = subst (λ y. RunsFrom (after values y) os) sets runs.1 in
    sees_five_on (slice_set values 1 5) os fives.1 (omega arith)
    (get_or-set_same values 1 5 0 here.1) rest k e view (omega arith) sees
sees_five values (o ∷ os) fives runs (suc j) (suc k) d e view before lt sets sees =
    sees_five (after values o.action) os fives.1 runs.1 j k d e view (omega arith) (omega arith) sets sees
sees_five values _ fives runs j _ d e view before lt sets sees = absurd (omega arith)

-- The one update of word 2 in the future in which process 1 goes on alone sets it to 5.
abbrev run_alone : Run
run_alone = run_of 3 (so_far ++ alone)

abbrev sets_other : Item → Bool
sets_other (Call i (op.Update word value)) = nat_eq word 2 && not (nat_eq value 5)
sets_other _ = false

is_other : (word value : ℕ) → word ≡ 2 → value ≢ 5 → (nat_eq word 2 && not (nat_eq value 5)) ≡ true
is_other word value same other = grind arith

updates_set_five : (i word value c e : ℕ) → PendingUpdate run_alone i word value c e → word ≡ 2 → value ≡ 5
updates_set_five i word value c e up same =
    elim (cases_eq value 5) [
      | inl is ↦ is
      | inr other ↦ (absurd (none_in (λ t. sets_other (item run_alone t)) 0 60 c refl up.first (omega arith)
          (ap sets_other up.call ∙ is_other word value same other)))
    ]

sets_five : (i c : ℕ) (end : Option ℕ) (a : Action) → TookPlace run_alone i c end a ⊎ IsOpenScan run_alone i c end a →
    SetsFive a
sets_five i c (Some e) (Sets word value) (inl took) = updates_set_five i word value c e took.0
sets_five i c None (Sets word value) (inl took) = updates_set_five i word value c 60 took.0
sets_five i c (Some e) (Sets word value) (inr h) = absurd h
sets_five i c None (Sets word value) (inr h) = absurd h
sets_five i c end (Sees view) h = tt

-- In the other future the scan does not answer 0 0 0, and is not open.
abbrev run_overtaken : Run
run_overtaken = run_of 3 (so_far ++ overtaken)

no_such_scan : (end : Option ℕ) →
    IsCompleted run_overtaken (record { process = 1; call = 21; end = end; action = Sees (0 ∷ 0 ∷ 0 ∷ []) }) → ⊥
no_such_scan (Some e) (inl took) =
    let ends : e ≡ 77 = same_answer run_overtaken 1 21 e 77 (0 ∷ 0 ∷ 0 ∷ []) (0 ∷ 5 ∷ 7 ∷ []) took overtaken_answers in
    let out : Answered (0 ∷ 0 ∷ 0 ∷ []) ≡ Answered (0 ∷ 5 ∷ 7 ∷ []) =
    sym took.ends.1 ∙ ap (outcome run_overtaken) ends ∙ overtaken_answers.ends.1 in
    let same : ◌≡◌ {A = ℕ} 0 5 = cc in omega arith
no_such_scan None (inl took) = took
no_such_scan (Some e) (inr h) = h
no_such_scan None (inr h) = h.1 (0 ∷ 5 ∷ 7 ∷ []) overtaken_answers.ends

pub none_serves_both_lem : NoneServesBoth
none_serves_both_lem now one other is_now is_one is_other_one begins_one begins_other =
    let scan : Operation = scan_seeing (0 ∷ 0 ∷ 0 ∷ []) 60 in
    let u = is_now.complete update update_took_place (55, refl) in
    let s = is_one.complete scan alone_answers (60, refl) in
    elim (cases_lt s.0 (length now)) [
      | inl already ↦ (let first = begins_at one now begins_one s.0 scan already in
          let second = begins_at other now begins_other s.0 scan already in
          let o = slice_index_or other s.0 scan in
          no_such_scan o.end (subst (λ (x : Operation). IsCompleted run_overtaken (record x { end = o.end }))
          (second.1 ∙ sym first.1 ∙ ap without_end s.2) (is_other_one.took_place s.0 scan second.0)))
      | inr later ↦ (let kept = begins_at one now begins_one u.0 update u.1 in
          let fives = recursion_from_All (λ o. SetsFive o.action) one (λ k d lt.
          let o = slice_index_or one k d in
          sets_five o.process o.call o.end o.action (is_one.took_place k d lt)) in
          let five : slice_index (0 ∷ 0 ∷ 0 ∷ []) 1 ≡ 5 =
          sees_five (0 ∷ 0 ∷ 0 ∷ []) one fives is_one.runs u.0 s.0 update scan (0 ∷ 0 ∷ 0 ∷ []) (omega arith) s.1
          (ap (λ (o : Operation). o.action) (kept.1 ∙ ap without_end u.2)) (ap (λ (o : Operation). o.action) s.2) in
          omega arith)
    ]
