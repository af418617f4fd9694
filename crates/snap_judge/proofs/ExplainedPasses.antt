-- What is left to be taken, before and behind an event, and before and behind an operation that takes place.
use Rattle.std.proofs.Common.{◌≡◌, ℕ, ◌-◌, ◌<◌, ◌≤◌, ◌⊎◌, List, ◌∷◌, length, refl, sym, subst, ◌∙◌, ap}
use Rattle.std.proofs.Common.{inl, inr, arith, slice_index_or, slice_set, Some}
use Rattle.std.specs.List.{AllByRecursion, Contains}
use Rattle.std.proofs.lemmas.Bool.{cases_lt}
use Rattle.snap_runs.specs.Operation.{Operation}
use Rattle.snap_runs.proofs.Order.{Apart}
use Rattle.snap_judge.specs.History.{History}
use Rattle.snap_judge.specs.Linearizable.{IsOperationOf}
use Rattle.snap_judge.specs.Steps.{Calls, Ends, Free, MayPass, Open, Slot, Step, Taken, Waits, passed}
use Rattle.snap_judge.proofs.ExplainedLists.{contains_cases, contains_head, contains_tail, each_both, each_weaker}
use Rattle.snap_judge.proofs.ExplainedLists.{set_cases, set_other, set_same}
use Rattle.snap_judge.proofs.ExplainedTurns.{AreSound, Fits, Live, SlotsAt, Turned, begun, pass_slots, place_within}
use Rattle.snap_judge.proofs.ExplainedTurns.{still, stop_within, take_slots}

-- The operation may be taken from this number on: it is called there, or is open now.
abbrev pub MayBeTaken : History → ℕ → List Slot → Operation → Type 0
MayBeTaken h p slots y =
    IsOperationOf h y × ((p ≤ y.call) ⊎ (slice_index_or slots (y.process - 1) Free ≡ Open y))

module _ (h : History) (sound : AreSound h) where
  -- What a slot that is not free holds behind an event it held before it, unless the event is its call.
  slot_before : (p q : ℕ) (x : Step) (slots : List Slot) (k : ℕ) (v : Slot) → Turned h p q x → SlotsAt h p slots →
      (Free ≡ v → ⊥) → slice_index_or (passed slots x) k Free ≡ v →
      (slice_index_or slots k Free ≡ v) ⊎ ((o : Operation) × (x ≡ Calls o) × (Open o ≡ v))
  slot_before p q (Calls o) slots k v t s used now =
      elim (set_cases slots (o.process - 1) k (Open o) v
      (place_within h sound o slots (t.begins o refl).operation s.count) now) [
        | inl here ↦ inr (o, refl, here.1)
        | inr other ↦ inl other.1
      ]
  slot_before p q (Ends i) slots k v t s used now =
      elim (set_cases slots (i - 1) k Free v (stop_within h sound p q i slots (t.stops i refl) s) now) [
        | inl here ↦ absurd (used here.1)
        | inr other ↦ inl other.1
      ]
  slot_before p q Waits slots k v t s used now = inl now

  -- What may be taken behind an event may be so before it.
  may_before : (p q : ℕ) (x : Step) (slots : List Slot) → Turned h p q x → SlotsAt h p slots → (y : Operation) →
      MayBeTaken h q (passed slots x) y → MayBeTaken h p slots y
  may_before p q x slots t s y (is, inl le) = let later : p ≤ q = t.later in (is, inl (omega arith))
  may_before p q x slots t s y (is, inr now) =
      elim (slot_before p q x slots (y.process - 1) (Open y) t s (λ no. cc) now) [
        | inl before ↦ (is, inr before)
        | inr call ↦ (let both = call.2 in let same : call.0 ≡ y = cc in
            (is, inl (subst (λ (z : Operation). p ≤ z.call) same (t.begins call.0 call.1).from)))
      ]

  -- What has ended behind an event, and had been taken there, had been so before it.
  taken_before : (p q : ℕ) (x : Step) (slots : List Slot) → Turned h p q x → SlotsAt h p slots →
      (y : Operation) → slice_index_or (passed slots x) (y.process - 1) Free ≡ Taken y →
      slice_index_or slots (y.process - 1) Free ≡ Taken y
  taken_before p q x slots t s y now =
      elim (slot_before p q x slots (y.process - 1) (Taken y) t s (λ no. cc) now) [
        | inl before ↦ before
        | inr call ↦ absurd (let no : Open call.0 ≡ Taken y = call.2 in cc)
      ]

  -- What ends by an event had been taken before it.
  taken_at_end : (p q : ℕ) (slots : List Slot) (y : Operation) (e : ℕ) → Turned h p q (Ends y.process) →
      SlotsAt h p slots → MayPass slots (Ends y.process) → IsOperationOf h y → y.end ≡ Some e → p ≤ e → e < q →
      slice_index_or slots (y.process - 1) Free ≡ Taken y
  taken_at_end p q slots y e t s may is end le lt =
      let early : y.call < e = sound.ends_later y e is end in
      let l : Live h p y = record {
        operation = is;
        called = elim (cases_lt y.call p) [
          | inl less ↦ less
          | inr more ↦ absurd (let no : Ends y.process ≡ Calls y = t.calls y is more (omega arith) in cc)
        ];
        going = λ u ends. let one : e ≡ u = (let both : Some e ≡ Some u = sym end ∙ ends in cc) in omega arith;
      } in
      elim (s.live y l) [
        | inl free ↦ absurd (let no : Open y ≡ Taken may.0 = sym free ∙ may.1 in cc)
        | inr now ↦ now
      ]

  -- What is left to be taken behind an event is left to be taken before it.
  pub fits_before : (p q : ℕ) (x : Step) (slots : List Slot) (left : List Operation) → Turned h p q x →
      SlotsAt h p slots → MayPass slots x → Fits h q (passed slots x) left → Fits h p slots left
  fits_before p q x slots left t s may f = record {
    each = each_weaker (MayBeTaken h q (passed slots x)) (MayBeTaken h p slots) left
        (may_before p q x slots t s) f.each;
    has = λ y e is end le. elim (cases_lt e q) [
      | inl lt ↦ (let it = t.ends y e is end le lt in
          inl (taken_at_end p q slots y e (rw it at t) s (rw it at may) is end le lt))
      | inr more ↦ elim (f.has y e is end more) [
        | inl now ↦ inl (taken_before p q x slots t s y now)
        | inr here ↦ inr here
      ]
    ];
  }

  -- What is left to be taken before an event is left to be taken behind it, if the event may be passed.
  open_behind : (p q : ℕ) (x : Step) (slots : List Slot) → Turned h p q x → SlotsAt h p slots → MayPass slots x →
      (y : Operation) → slice_index_or slots (y.process - 1) Free ≡ Open y →
      slice_index_or (passed slots x) (y.process - 1) Free ≡ Open y
  open_behind p q x slots t s may y now =
      let l' = still h sound p q x y t (s.opened (y.process - 1) y now).0
      (λ e. let m = rw e at may in let no : Open y ≡ Taken m.0 = sym now ∙ m.1 in cc) in
      elim ((pass_slots h sound p q x slots t s).live y l') [
        | inl is ↦ is
        | inr is ↦ absurd (let no : Open y ≡ Taken y = sym now ∙ taken_before p q x slots t s y is in cc)
      ]

  may_behind : (p q : ℕ) (x : Step) (slots : List Slot) → Turned h p q x → SlotsAt h p slots → MayPass slots x →
      (y : Operation) → MayBeTaken h p slots y → MayBeTaken h q (passed slots x) y
  may_behind p q x slots t s may y (is, inr now) = (is, inr (open_behind p q x slots t s may y now))
  may_behind p q x slots t s may y (is, inl le) = elim (cases_lt y.call q) [
    | inl lt ↦ (let l = begun h sound p q y (rw (t.calls y is le lt) at t) in
        elim ((pass_slots h sound p q x slots t s).live y l) [
          | inl now ↦ (is, inr now)
          | inr held ↦ absurd (let early : y.call < p =
              (s.took (y.process - 1) y (taken_before p q x slots t s y held)).0.called in omega arith)
        ])
    | inr more ↦ (is, inl more)
  ]

  taken_behind : (p q : ℕ) (x : Step) (slots : List Slot) → Turned h p q x → SlotsAt h p slots →
      (y : Operation) (e : ℕ) → y.end ≡ Some e → q ≤ e → slice_index_or slots (y.process - 1) Free ≡ Taken y →
      slice_index_or (passed slots x) (y.process - 1) Free ≡ Taken y
  taken_behind p q x slots t s y e end more now =
      let l = (s.took (y.process - 1) y now).0 in
      let later : p ≤ q = t.later in let before : y.call < p = l.called in
      let l' : Live h q y = record {
        operation = l.operation;
        called = omega arith;
        going = λ u ends. let one : e ≡ u = (let both : Some e ≡ Some u = sym end ∙ ends in cc) in omega arith;
      } in
      elim ((pass_slots h sound p q x slots t s).live y l') [
        | inl is ↦ absurd (elim (may_before p q x slots t s y (l.operation, inr is)).1 [
          | inl le ↦ omega arith
          | inr was ↦ (let no : Open y ≡ Taken y = sym was ∙ now in cc)
        ])
        | inr is ↦ is
      ]

  pub fits_behind : (p q : ℕ) (x : Step) (slots : List Slot) (left : List Operation) → Turned h p q x →
      SlotsAt h p slots → MayPass slots x → Fits h p slots left → Fits h q (passed slots x) left
  fits_behind p q x slots left t s may f = record {
    each = each_weaker (MayBeTaken h p slots) (MayBeTaken h q (passed slots x)) left
        (may_behind p q x slots t s may) f.each;
    has = λ y e is end more. let later : p ≤ q = t.later in elim (f.has y e is end (omega arith)) [
      | inl now ↦ inl (taken_behind p q x slots t s y e end more now)
      | inr here ↦ inr here
    ];
  }

  -- Once an open operation has taken place, the others are left to be taken.
  pub fits_after_take : (p : ℕ) (o : Operation) (slots : List Slot) (left : List Operation) → SlotsAt h p slots →
      slice_index_or slots (o.process - 1) Free ≡ Open o → AllByRecursion (Apart o) left → Fits h p slots (o ∷ left) →
      Fits h p (slice_set slots (o.process - 1) (Taken o)) left
  fits_after_take p o slots left s is apart f =
      let lt = place_within h sound o slots (s.opened (o.process - 1) o is).0.operation s.count in
      record {
        each = each_both (MayBeTaken h p slots) (Apart o)
            (MayBeTaken h p (slice_set slots (o.process - 1) (Taken o))) left still_may f.each.1 apart;
        has = λ y e its end le. elim (f.has y e its end le) [
          | inl now ↦ inl (set_other slots (o.process - 1) (y.process - 1) (Taken o) (Taken y)
              (λ same. let no : Taken y ≡ Open o =
              sym now ∙ subst (λ k. slice_index_or slots k Free ≡ Open o) (sym same) is in cc) now)
          | inr here ↦ elim (contains_cases o y left here) [
            | inl same ↦ inl (set_same slots (o.process - 1) (y.process - 1) (Taken o) lt
                (ap (λ (z : Operation). z.process - 1) (sym same)) ∙ ap Taken same)
            | inr later ↦ inr later
          ]
        ];
      }
    where
      still_may : (y : Operation) → MayBeTaken h p slots y → Apart o y →
          MayBeTaken h p (slice_set slots (o.process - 1) (Taken o)) y
      still_may y (its, inl le) a = (its, inl le)
      still_may y (its, inr now) a = (
        its,
        inr (set_other slots (o.process - 1) (y.process - 1) (Taken o) (Open y)
            (λ same. let both : Open o ≡ Open y =
            sym (subst (λ k. slice_index_or slots k Free ≡ Open o) (sym same) is) ∙ now in
            let one : o ≡ y = cc in a.0 (ap (λ (z : Operation). z.call) one)) now),
      )

  -- Before an open operation takes place, it and what is left then are left to be taken.
  pub fits_before_take : (p : ℕ) (o : Operation) (slots : List Slot) (left : List Operation) → SlotsAt h p slots →
      slice_index_or slots (o.process - 1) Free ≡ Open o →
      Fits h p (slice_set slots (o.process - 1) (Taken o)) left → Fits h p slots (o ∷ left)
  fits_before_take p o slots left s is f =
      let l = s.opened (o.process - 1) o is in
      let lt = place_within h sound o slots l.0.operation s.count in
      record {
        each = (
          (l.0.operation, inr is),
          each_weaker (MayBeTaken h p (slice_set slots (o.process - 1) (Taken o))) (MayBeTaken h p slots) left
              (may lt) f.each,
        );
        has = λ y e its end le. elim (f.has y e its end le) [
          | inl now ↦ elim (set_cases slots (o.process - 1) (y.process - 1) (Taken o) (Taken y) lt now) [
            | inl here ↦ (let both : Taken o ≡ Taken y = here.1 in let same : o ≡ y = cc in
                inr (subst (Contains (o ∷ left)) same (contains_head o left)))
            | inr other ↦ inl other.1
          ]
          | inr later ↦ inr (contains_tail o y left later)
        ];
      }
    where
      may : o.process - 1 < length slots → (y : Operation) →
          MayBeTaken h p (slice_set slots (o.process - 1) (Taken o)) y → MayBeTaken h p slots y
      may lt y (its, inl le) = (its, inl le)
      may lt y (its, inr now) =
          elim (set_cases slots (o.process - 1) (y.process - 1) (Taken o) (Open y) lt now) [
            | inl here ↦ absurd (let no : Taken o ≡ Open y = here.1 in cc)
            | inr other ↦ (its, inr other.1)
          ]

  -- What may be taken once an operation has taken place is another one, and it did not end before that one was called.
  pub apart_from_taken : (p : ℕ) (o : Operation) (slots : List Slot) → SlotsAt h p slots →
      slice_index_or slots (o.process - 1) Free ≡ Open o →
      (y : Operation) → MayBeTaken h p (slice_set slots (o.process - 1) (Taken o)) y → Apart o y
  apart_from_taken p o slots s is y (its, inl le) =
      let l = s.opened (o.process - 1) o is in let lo : o.call < p = l.0.called in (
        λ same. omega arith,
        λ ended. let e = ended.0 in let late : y.call < e = sound.ends_later y e its ended.1 in
            let early : e < o.call = ended.2 in omega arith,
      )
  apart_from_taken p o slots s is y (its, inr now) =
      let l = s.opened (o.process - 1) o is in let lo : o.call < p = l.0.called in
      let lt = place_within h sound o slots l.0.operation s.count in
      let live = (take_slots h sound p o slots s is).opened (y.process - 1) y now in (
        λ same. let one : o ≡ y = sound.same_call o y l.0.operation its same in
            let held = set_same slots (o.process - 1) (y.process - 1) (Taken o) lt
            (ap (λ (z : Operation). z.process - 1) (sym one)) in
            let no : Taken o ≡ Open y = sym held ∙ now in cc,
        λ ended. let e = ended.0 in let le : p ≤ e = live.0.going e ended.1 in
            let early : e < o.call = ended.2 in omega arith,
      )
