-- Operations that have taken place among the first items of a run of any listing, ended or not.
use Rattle.std.proofs.Common.{◌≡◌, ℕ, suc, ◌<◌, ◌≤◌, ◌⊎◌, Bool, true, false, List, [], ◌∷◌, ◌++◌, map, length, Option}
use Rattle.std.proofs.Common.{Some, None, slice_index_or, nat_eq, refl, sym, ◌∙◌, ap, subst, arith, inl, inr}
use Rattle.std.specs.List.{AllByRecursion, Contains}
use Rattle.std.proofs.Math.Nat.{eq-or-lt_of_le}
use Rattle.std.proofs.lemmas.List.{length-map, get_or-map}
use Rattle.std.proofs.lemmas.List.Elements.{All-map, All-from_recursion, recursion_from_All}
use Rattle.snap_runs.proofs.Common.{IsOneOf, Call, Op, Scan, Update, Outcome, who, Run, item}
use Rattle.snap_semantics.specs.declared.process.Outcome.TheVariants as outcome
use Rattle.snap_runs.specs.Run.{outcome as outcome_at}
use Rattle.snap_runs.specs.Operation.{Action, Sets, Sees, Operation, TookPlace, IsOperation, HasEnded, EndedBefore}
use Rattle.snap_runs.specs.Linearization.{after, Allows, RunsFrom}
use Rattle.snap_runs.proofs.Calls.{EndsWith, IsEnd}
use Rattle.snap_runs.proofs.Operations.{ends_done, ends_answer}
use Rattle.snap_runs.proofs.Order.{Pairs, Apart}
use Rattle.snap_runs.specs.Scan.{Ends}
use Rattle.snap_runs.specs.Update.{IsDone}
use Rattle.snap_strong.specs.StrongLinearization.{IsOpenScan, IsCompleted}

-- the operation that is asked for, and how it ends
abbrev pub op_of : Action → Op
op_of (Sets word value) = Update word value
op_of (Sees view) = Scan

abbrev pub outcome_of : Action → Outcome
outcome_of (Sets word value) = outcome.Finished
outcome_of (Sees view) = outcome.Answered view

pub ends_so : (b : Action) → EndsWith (op_of b) (outcome_of b)
ends_so (Sets word value) = tt
ends_so (Sees view) = tt

pub ends_is_end : (b : Action) (out : Outcome) → EndsWith (op_of b) out → IsEnd out
ends_is_end (Sets word value) out h = subst IsEnd (sym (ends_done word value out h)) tt
ends_is_end (Sees view) out h = let x = ends_answer out h in subst IsEnd (sym x.1) tt

pub same_action : (b d : Action) → op_of b ≡ op_of d → outcome_of b ≡ outcome_of d → b ≡ d
same_action (Sets word value) (Sees view) op out = absurd (cc)
same_action (Sees view) (Sets word value) op out = absurd (cc)
same_action _ _ op out = cc

-- an operation of process i that has not ended ends at item e
abbrev pub end_at : Bool → ℕ → Option ℕ → Option ℕ
end_at true e None = Some e
end_at true e (Some d) = Some d
end_at false e end = end

abbrev pub ended : ℕ → ℕ → Operation → Operation
ended i e o =
    record { process = o.process; call = o.call; end = end_at (nat_eq o.process i) e o.end; action = o.action }

pub not_ended_before : (b : Bool) (e : ℕ) (end : Option ℕ) → end_at b e end ≡ None → end ≡ None
not_ended_before true e None h = refl
not_ended_before _ e _ h = h

pub ended_now : (b : Bool) (e : ℕ) (end : Option ℕ) → b ≡ true → end_at b e end ≡ None → ⊥
ended_now true e None is h = cc
ended_now _ e _ is h = cc

-- what has ended does not end again
pub ended_once : (b : Bool) (e d : ℕ) (end : Option ℕ) → end ≡ Some d → end_at b e end ≡ end
ended_once true e d None some = absurd (cc)
ended_once _ e d _ some = refl

ended_then : (b : Bool) (e : ℕ) (end : Option ℕ) (d : ℕ) → end_at b e end ≡ Some d → (end ≡ Some d) ⊎ (e ≡ d)
ended_then true e None d h = inr (cc)
ended_then _ e _ d h = inl h

module _ (r : Run) where
  -- no item after item c and before item t ends what process i is asked for
  abbrev pub GoesOn : ℕ → ℕ → Op → ℕ → Type 0
  GoesOn i c op t = (u : ℕ) → c < u → u < t → who (item r u) ≡ i → EndsWith op (outcome_at r u) → ⊥

  -- the end of an operation, if it has ended up to item t
  abbrev pub EndUpTo : ℕ → ℕ → Action → ℕ → Option ℕ → Type 0
  EndUpTo i c b t None = GoesOn i c (op_of b) (suc t)
  EndUpTo i c b t (Some e) =
      (c < e) × (e ≤ t) × (who (item r e) ≡ i) × (outcome_at r e ≡ outcome_of b) × GoesOn i c (op_of b) e

  -- An operation was called, and has ended as it says, among the first t items.
  pub record Placed (t : ℕ) (o : Operation) : Type 0 where
    pub one : IsOneOf r.shape.n o.process
    pub call_is : item r o.call ≡ Call o.process (op_of o.action)
    pub called : outcome_at r o.call ≡ outcome.Called
    pub first : 0 < o.call
    pub order : o.call ≤ t
    pub end : EndUpTo o.process o.call o.action t o.end

  -- where item t + 1 does not end it
  end_longer : (i c t : ℕ) (b : Action) (end : Option ℕ) →
      (end ≡ None → who (item r (suc t)) ≡ i → EndsWith (op_of b) (outcome_at r (suc t)) → ⊥) →
      EndUpTo i c b t end → EndUpTo i c b (suc t) end
  end_longer i c t b None none h = λ u lt less his ends.
      let le : u ≤ suc t = omega arith in
      elim (eq-or-lt_of_le le) [
        | inl same ↦
            none refl (subst (λ y. who (item r y) ≡ i) same his)
            (subst (λ y. EndsWith (op_of b) (outcome_at r y)) same ends)
        | inr sooner ↦ h u lt sooner his ends
      ]
  end_longer i c t b (Some e) none h = (h.0, omega arith, h.2, h.3, h.4)

  pub placed_longer : (t : ℕ) (o : Operation) →
      (o.end ≡ None → who (item r (suc t)) ≡ o.process → EndsWith (op_of o.action) (outcome_at r (suc t)) → ⊥) →
      Placed t o → Placed (suc t) o
  placed_longer t o none h =
      let order : o.call ≤ suc t = omega arith in
      let end = end_longer o.process o.call t o.action o.end none h.end in
      assumption

  -- where item t + 1 ends the operation
  end_closed : (i c t k : ℕ) (b : Action) (end : Option ℕ) (his : Bool) → nat_eq i k ≡ his → who (item r (suc t)) ≡ k →
      c ≤ t →
      (i ≡ k → end ≡ None → outcome_at r (suc t) ≡ outcome_of b) → EndUpTo i c b t end →
      EndUpTo i c b (suc t) (end_at his (suc t) end)
  end_closed i c t k b None true is at le ends h =
      let same : i ≡ k = grind arith in
      (omega arith, omega arith, at ∙ sym same, ends same refl, h)
  end_closed i c t k b (Some e) true is at le ends h = end_longer i c t b (Some e) (λ some. absurd (cc)) h
  end_closed i c t k b end false is at le ends h =
      end_longer i c t b end
      (λ none his.
      absurd (let same : i ≡ k = sym his ∙ at in let yes : nat_eq i k ≡ true = grind arith in let q : ⊥ = cc in q)) h

  pub placed_closed : (t k : ℕ) (o : Operation) → who (item r (suc t)) ≡ k →
      (o.process ≡ k → o.end ≡ None → outcome_at r (suc t) ≡ outcome_of o.action) → Placed t o →
      Placed (suc t) (ended k (suc t) o)
  placed_closed t k o at ends h =
      let order : o.call ≤ suc t = omega arith in
      let end = end_closed o.process o.call t k o.action o.end (nat_eq o.process k) refl at h.order ends h.end in
      assumption

  -- An operation that has ended by item t + 1 ended before that item or at it.
  end_shorter : (i c t e : ℕ) (b : Action) (end : Option ℕ) → end ≡ Some e → EndUpTo i c b (suc t) end →
      EndUpTo i c b t end ⊎ (e ≡ suc t)
  end_shorter i c t e b None some h = absurd (cc)
  end_shorter i c t e b (Some d) some h =
      let same : d ≡ e = cc in
      elim (eq-or-lt_of_le h.1) [
        | inl last ↦ inr (omega arith)
        | inr less ↦ inl (h.0, omega arith, h.2, h.3, h.4)
      ]

  pub ended_at : (t e : ℕ) (o : Operation) → o.end ≡ Some e → Placed t o → EndUpTo o.process o.call o.action t (Some e)
  ended_at t e o some h = subst (EndUpTo o.process o.call o.action t) some h.end

  pub placed_shorter : (t : ℕ) (o : Operation) → HasEnded o → Placed (suc t) o → Placed t o ⊎ (o.end ≡ Some (suc t))
  placed_shorter t o some h =
      let end = ended_at (suc t) some.0 o some.1 h in
      elim (end_shorter o.process o.call t some.0 o.action o.end some.1 h.end) [
        | inl sooner ↦ (let there = subst (EndUpTo o.process o.call o.action t) some.1 sooner in
            let order : o.call ≤ t = omega arith in
            inl assumption)
        | inr now ↦ inr (some.1 ∙ ap (λ y. Some y) now)
      ]

  -- an operation does not end before itself is called
  pub not_before_itself : (t : ℕ) (o : Operation) → Placed t o → EndedBefore o o → ⊥
  not_before_itself t o h before =
      let end = ended_at t before.0 o before.1 h in
      omega arith

  -- At the end of the run it is one of the run's operations, completed.
  completed_by : (i c : ℕ) (b : Action) (end : Option ℕ) →
      Placed (length r.items) (record { process = i; call = c; end = end; action = b }) →
      TookPlace r i c end b ⊎ IsOpenScan r i c end b
  completed_by i c (Sets word value) (Some e) h =
      let order : c ≤ e = (let lt : c < e = h.end.0 in omega arith) in
      let goes_on : (u : ℕ) → c < u → u < e → IsDone r i u → ⊥ =
      λ u lt less done. h.end.4 u lt less done.0 (subst (EndsWith (Update word value)) (sym done.1) tt) in
      inl assumption
  completed_by i c (Sees view) (Some e) h =
      let order : c ≤ e = (let lt : c < e = h.end.0 in omega arith) in
      let goes_on : (u : ℕ) (seen : List ℕ) → c < u → u < e → Ends r i u None seen → ⊥ =
      λ u seen lt less ends. h.end.4 u lt less ends.0 (subst (EndsWith Scan) (sym ends.1) tt) in
      inl assumption
  completed_by i c (Sets word value) None h =
      let goes_on : (u : ℕ) → c < u → u < length r.items → IsDone r i u → ⊥ =
      λ u lt less done. h.end u lt (omega arith) done.0 (subst (EndsWith (Update word value)) (sym done.1) tt) in
      let last : length r.items ≤ length r.items = omega arith in
      inl (
        assumption,
        λ done. elim (eq-or-lt_of_le h.order) [
          | inl same ↦
              (let out : outcome.Called ≡ outcome.Finished =
              sym h.called ∙ ap (outcome_at r) same ∙ done.1 in let q : ⊥ = cc in q)
          | inr lt ↦
              h.end (length r.items) lt (omega arith) done.0 (subst (EndsWith (Update word value)) (sym done.1) tt)
        ],
      )
  completed_by i c (Sees view) None h =
      let goes_on : (u : ℕ) (seen : List ℕ) → c < u → u < length r.items → Ends r i u None seen → ⊥ =
      λ u seen lt less ends. h.end u lt (omega arith) ends.0 (subst (EndsWith Scan) (sym ends.1) tt) in
      let last : length r.items ≤ length r.items = omega arith in
      inr (
        assumption,
        λ seen ends. elim (eq-or-lt_of_le h.order) [
          | inl same ↦
              (let out : outcome.Called ≡ outcome.Answered seen =
              sym h.called ∙ ap (outcome_at r) same ∙ ends.1 in let q : ⊥ = cc in q)
          | inr lt ↦ h.end (length r.items) lt (omega arith) ends.0 (subst (EndsWith Scan) (sym ends.1) tt)
        ],
      )

  pub completed : (o : Operation) → Placed (length r.items) o → IsCompleted r o
  completed o h = completed_by o.process o.call o.action o.end h

  -- An operation of the run that has ended has taken place.
  placed_by : (i c e : ℕ) (b : Action) → TookPlace r i c (Some e) b →
      Placed (length r.items) (record { process = i; call = c; end = Some e; action = b })
  placed_by i c e (Sets word value) took =
      let order : c ≤ length r.items = omega arith in
      let goes_on : GoesOn i c (Update word value) e =
      λ u more less his ends. took.0.goes_on u more less (his, ends_done word value (outcome_at r u) ends) in
      assumption
  placed_by i c e (Sees view) took =
      let order : c ≤ length r.items = omega arith in
      let goes_on : GoesOn i c Scan e = λ u more less his ends.
      let x = ends_answer (outcome_at r u) ends in took.scan.goes_on u x.0 more less (his, x.1) in
      assumption

  pub placed : (o : Operation) → IsOperation r o → HasEnded o → Placed (length r.items) o
  placed o took some =
      subst (λ y. Placed (length r.items) (record { process = o.process; call = o.call; end = y; action = o.action }))
      (sym some.1)
      (placed_by o.process o.call some.0 o.action (subst (λ y. TookPlace r o.process o.call y o.action) some.1 took))

-- Lists of operations, where some of them end.
pub Contains-map : (f : Operation → Operation) (os : List Operation) (o : Operation) → Contains os o →
    Contains (map f os) (f o)
Contains-map f os o there =
    (there.0, omega (arith, length-map os f), get_or-map f os there.0 o (f o) there.1 ∙ ap f there.2)

-- operations stay apart where one ends that ends after the other was called
apart_ended : (k e : ℕ) (x y : Operation) → x.call < e → Apart x y → Apart (ended k e x) (ended k e y)
apart_ended k e x y early h = (
  h.0,
  λ before. elim (ended_then (nat_eq y.process k) e y.end before.0 before.1) [
    | inl already ↦ h.1 (before.0, already, before.2)
    | inr now ↦ (let q : ⊥ = omega arith in q)
  ],
)

pub pairs_ended : (k e : ℕ) (os : List Operation) → AllByRecursion (λ o. o.call < e) os → Pairs Apart os →
    Pairs Apart (map (ended k e) os)
pairs_ended k e [] early h = tt
pairs_ended k e (o ∷ os) early h = (
  recursion_from_All (Apart (ended k e o)) (map (ended k e) os)
      (All-map (Apart (ended k e o)) (ended k e) os
      (λ i d lt. apart_ended k e o (slice_index_or os i d) early.0 (All-from_recursion (Apart o) os h.0 i d lt))),
  pairs_ended k e os early.1 h.1,
)

-- The object runs them from these values to those.
abbrev pub RunsTo : List ℕ → List Operation → List ℕ → Type 0
RunsTo values [] now = values ≡ now
RunsTo values (o ∷ os) now = Allows values o.action × RunsTo (after values o.action) os now

pub starts_from : (values : List ℕ) (os : List Operation) (now : List ℕ) → RunsTo values os now → RunsFrom values os
starts_from values [] now h = tt
starts_from values (o ∷ os) now h = (h.0, starts_from (after values o.action) os now h.1)

pub runs_ended : (k e : ℕ) (values : List ℕ) (os : List Operation) (now : List ℕ) → RunsTo values os now →
    RunsTo values (map (ended k e) os) now
runs_ended k e values [] now h = h
runs_ended k e values (o ∷ os) now h = (h.0, runs_ended k e (after values o.action) os now h.1)

pub segments_more : (values : List ℕ) (os : List Operation) (now : List ℕ) (o : Operation) → RunsTo values os now →
    Allows now o.action →
    RunsTo values (os ++ o ∷ []) (after now o.action)
segments_more values [] now o h allows = (subst (λ y. Allows y o.action) (sym h) allows, ap (λ y. after y o.action) h)
segments_more values (x ∷ xs) now o h allows = (h.0, segments_more (after values x.action) xs now o h.1 allows)
