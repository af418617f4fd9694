-- The operations of a worked run, from what computing shows: how they begin and end,
-- and that no item between ends them.
use Rattle.std.specs.Prelude.{◌≡◌, ℕ, suc, ◌<◌, ◌≤◌, ◌⊎◌, Bool, true, false, ◌&&◌, List, length, Some, None, nat_eq}
use Rattle.std.specs.List.{Contains}
use Rattle.std.proofs.Common.{sym, ◌∙◌, ap, subst, arith, inl, inr}
use Rattle.std.proofs.lemmas.Bool.{cases_eq, cases_lt}
use Rattle.snap_runs.proofs.Common.{IsOneOf, who, Call, Update, Outcome, Called, Answered, Finished, Run, item, outcome}
use Rattle.snap_runs.specs.Operation.{Action, Sets, Sees, Operation, TookPlace, IsOperation, HasEnded}
use Rattle.snap_runs.specs.Placement.{HappensAt, TakesPlaceAt}
use Rattle.snap_runs.specs.Scan.{Starts, Ends, FinishedScan, count}
use Rattle.snap_runs.specs.Update.{IsDone, PendingUpdate}
use Rattle.snap_runs.proofs.Computing.{same_number}
use Rattle.snap_runs.proofs.Operations.{count_one}

-- no item passes a test that none is counted to pass
pub none_in : (test : ℕ → Bool) (c e t : ℕ) → count test c e ≡ 0 → c < t → t ≤ e → test t ≡ true → ⊥
none_in test c e t none lt le passes = let one = count_one test c t e lt le passes in omega arith

-- where three numbers up to e pass a test, and none between them, it is one of them that passes
pub one_of_three : (test : ℕ → Bool) (x y z e c : ℕ) → count test 0 x ≡ 0 → count test (suc x) y ≡ 0 →
    count test (suc y) z ≡ 0 → count test (suc z) e ≡ 0 → 0 < c → c ≤ e → test c ≡ true →
    (c ≡ suc x) ⊎ ((c ≡ suc y) ⊎ (c ≡ suc z))
one_of_three test x y z e c none_x none_y none_z none_e pos le is =
    elim (cases_eq c (suc x)) [
      | inl same ↦ inl same
      | inr not_x ↦ elim (cases_eq c (suc y)) [
        | inl same ↦ inr (inl same)
        | inr not_y ↦ elim (cases_eq c (suc z)) [
          | inl same ↦ inr (inr same)
          | inr not_z ↦ absurd (elim (cases_lt c (suc x)) [
            | inl lt ↦ none_in test 0 x c none_x pos (omega arith) is
            | inr past_x ↦ elim (cases_lt c (suc y)) [
              | inl lt ↦ none_in test (suc x) y c none_y (omega arith) (omega arith) is
              | inr past_y ↦ elim (cases_lt c (suc z)) [
                | inl lt ↦ none_in test (suc y) z c none_z (omega arith) (omega arith) is
                | inr past_z ↦ none_in test (suc z) e c none_e (omega arith) le is
              ]
            ]
          ])
        ]
      ]
    ]

-- an operation ends so
abbrev pub is_end : Outcome → Bool
is_end (Answered view) = true
is_end Finished = true
is_end _ = false

module _ (r : Run) where
  -- whether item t ends an operation of process i
  abbrev pub ends_at : ℕ → ℕ → Bool
  ends_at i t = nat_eq (who (item r t)) i && is_end (outcome r t)

  no_end : (i c e t : ℕ) → count (ends_at i) c e ≡ 0 → c < t → t ≤ e → who (item r t) ≡ i →
      is_end (outcome r t) ≡ true → ⊥
  no_end i c e t none lt le his ends =
      none_in (ends_at i) c e t none lt le
      (ap (λ y. nat_eq y i && is_end (outcome r t)) his ∙ ap (λ b. b && is_end (outcome r t)) (same_number i) ∙ ends)

  -- a scan that item c calls is answered at the item after e
  pub finished_scan : (i c e : ℕ) (view : List ℕ) → IsOneOf r.shape.n i → 0 < c → c ≤ e → suc e ≤ length r.items →
      Starts r i c None → Ends r i (suc e) None view → count (ends_at i) c e ≡ 0 → FinishedScan r i None c (suc e) view
  finished_scan i c e view one first order last starts ends none = record {
    scan = record {
      process = one;
      starts = starts;
      first = first;
      order = omega arith;
      last = last;
      goes_on = λ t v lt less at. no_end i c e t none lt (omega arith) at.0 (ap is_end at.1);
    };
    order = omega arith;
    ends = ends;
  }

  -- an update that item c calls is not done up to item e
  pending_update : (i word value c e : ℕ) → IsOneOf r.shape.n i → 0 < c → c ≤ suc e → suc e ≤ length r.items →
      item r c ≡ Call i (Update word value) → outcome r c ≡ Called → count (ends_at i) c e ≡ 0 →
      PendingUpdate r i word value c (suc e)
  pending_update i word value c e one first order last call called none = record {
    process = one;
    call = call;
    called = called;
    first = first;
    order = order;
    last = last;
    goes_on = λ t lt less done. no_end i c e t none lt (omega arith) done.0 (ap is_end done.1);
  }

  -- an update that item c calls is done at the item after e
  pub finished_update : (i word value c e : ℕ) → IsOneOf r.shape.n i → 0 < c → c ≤ e → suc e ≤ length r.items →
      item r c ≡ Call i (Update word value) → outcome r c ≡ Called → IsDone r i (suc e) → count (ends_at i) c e ≡ 0 →
      IsOperation r (record { process = i; call = c; end = Some (suc e); action = Sets word value })
  finished_update i word value c e one first order last call called done none =
      (pending_update i word value c e one first (omega arith) last call called none, omega arith, done)

  -- an update that item c calls is not done by the last item, the one after e
  pub open_update : (i word value c e : ℕ) → IsOneOf r.shape.n i → 0 < c → c ≤ suc e → suc e ≡ length r.items →
      item r c ≡ Call i (Update word value) → outcome r c ≡ Called → is_end (outcome r (suc e)) ≡ false →
      count (ends_at i) c e ≡ 0 →
      IsOperation r (record { process = i; call = c; end = None; action = Sets word value })
  open_update i word value c e one first order last call called goes_on none =
      subst (λ y. PendingUpdate r i word value c y × (IsDone r i y → ⊥)) last (
        pending_update i word value c e one first order (omega arith) call called none,
        λ done. let is = sym goes_on ∙ ap is_end done.1 in cc,
      )

  -- where no item ends an operation, no operation has ended
  pub none_ended : count (λ t. is_end (outcome r t)) 0 (length r.items) ≡ 0 → (os : List Operation) (o : Operation) →
      IsOperation r o → HasEnded o → Contains os o
  none_ended none os o took ended =
      absurd (not_so o.process o.call ended.0 o.action
      (subst (λ y. TookPlace r o.process o.call y o.action) ended.1 took))
    where
      not_so : (i c e : ℕ) (a : Action) → TookPlace r i c (Some e) a → ⊥
      not_so i c e (Sets word value) so =
          none_in (λ t. is_end (outcome r t)) 0 (length r.items) e none (let lt : c < e = so.1 in omega arith)
          so.0.last (ap is_end so.2.1)
      not_so i c e (Sees view) so =
          none_in (λ t. is_end (outcome r t)) 0 (length r.items) e none (omega arith)
          so.scan.last (ap is_end so.ends.1)

  -- an operation that ends at item e takes place at item t, between its call and its end
  pub takes_place : (line : ℕ) (o : Operation) (e t : ℕ) → o.end ≡ Some e → o.call ≤ t → t ≤ length r.items → t ≤ e →
      HappensAt line r o.process o.call o.action t → TakesPlaceAt line r o t
  takes_place line o e t ends called within le happens = record {
    called = called;
    within = within;
    not_ended = λ x is. let both = sym ends ∙ is in let same : e ≡ x = cc in omega arith;
    happens = happens;
  }
