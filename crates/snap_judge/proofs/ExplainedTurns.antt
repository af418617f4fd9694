-- The events of a history as turns: at each number the operations that are going on, what an event changes of them,
-- and the slots that tell of them.
use Rattle.std.proofs.Common.{◌≡◌, ℕ, ◌-◌, ◌<◌, ◌≤◌, ◌⊎◌, List, [], ◌∷◌, length, refl, sym, subst, ◌∙◌, ap}
use Rattle.std.proofs.Common.{inl, inr, arith, slice_index_or, slice_set, replicate, Some}
use Rattle.std.specs.List.{AllByRecursion, Contains}
use Rattle.std.proofs.lemmas.Bool.{cases_eq, cases_lt}
use Rattle.std.proofs.lemmas.List.{length-set, length-replicate}
use Rattle.snap_words.specs.Shape.{IsOneOf}
use Rattle.snap_runs.specs.Operation.{Operation}
use Rattle.snap_judge.specs.History.{History}
use Rattle.snap_judge.specs.Linearizable.{IsOperationOf}
use Rattle.snap_judge.specs.Steps.{Calls, Ends, Free, Open, Slot, Step, Taken, Waits, passed}
use Rattle.snap_judge.proofs.ExplainedLists.{replicated, set_cases, set_other, set_same}

-- The operation was called before this number, and has no end before it.
pub record Live (h : History) (p : ℕ) (o : Operation) : Type 0 where
  pub operation : IsOperationOf h o
  pub called : o.call < p
  pub going : (t : ℕ) → o.end ≡ Some t → p ≤ t

-- Between these numbers the operation is called, and no other one of its process is going on.
pub record Begins (h : History) (p q : ℕ) (o : Operation) : Type 0 where
  pub operation : IsOperationOf h o
  pub from : p ≤ o.call
  pub before : o.call < q
  pub alone : (y : Operation) → Live h p y → y.process ≡ o.process → ⊥

-- Between these numbers an operation of the process ends.
pub record Stops (h : History) (p q i : ℕ) : Type 0 where
  pub operation : Operation
  pub live : Live h p operation
  pub process : operation.process ≡ i
  pub at : ℕ
  pub end : operation.end ≡ Some at
  pub before : at < q

-- The step tells all that comes between these numbers.
pub record Turned (h : History) (p q : ℕ) (x : Step) : Type 0 where
  pub later : p ≤ q
  pub calls : (y : Operation) → IsOperationOf h y → p ≤ y.call → y.call < q → x ≡ Calls y
  pub begins : (o : Operation) → x ≡ Calls o → Begins h p q o
  pub ends : (y : Operation) (t : ℕ) → IsOperationOf h y → y.end ≡ Some t → p ≤ t → t < q → x ≡ Ends y.process
  pub stops : (i : ℕ) → x ≡ Ends i → Stops h p q i

-- No operation is called, and none ends, from this number on.
pub record IsOver (h : History) (p : ℕ) : Type 0 where
  pub called : (y : Operation) → IsOperationOf h y → y.call < p
  pub ended : (y : Operation) (t : ℕ) → IsOperationOf h y → y.end ≡ Some t → t < p

-- The steps are all that come from this number on.
abbrev pub Goes : History → List Step → ℕ → Type 0
Goes h [] p = IsOver h p
Goes h (x ∷ xs) p = (q : ℕ) × Turned h p q x × Goes h xs q

-- Each operation ends after its call, is one of a process that there is, and is known by its call.
pub record AreSound (h : History) : Type 0 where
  pub ends_later : (o : Operation) (t : ℕ) → IsOperationOf h o → o.end ≡ Some t → o.call < t
  pub of_process : (o : Operation) → IsOperationOf h o → IsOneOf h.shape.n o.process
  pub same_call : (a b : Operation) → IsOperationOf h a → IsOperationOf h b → a.call ≡ b.call → a ≡ b

-- The slots tell which operations go on.
pub record SlotsAt (h : History) (p : ℕ) (slots : List Slot) : Type 0 where
  pub count : length slots ≡ h.shape.n
  pub live : (y : Operation) → Live h p y →
      (slice_index_or slots (y.process - 1) Free ≡ Open y) ⊎ (slice_index_or slots (y.process - 1) Free ≡ Taken y)
  pub opened : (k : ℕ) (y : Operation) → slice_index_or slots k Free ≡ Open y → Live h p y × (y.process - 1 ≡ k)
  pub took : (k : ℕ) (y : Operation) → slice_index_or slots k Free ≡ Taken y → Live h p y × (y.process - 1 ≡ k)

-- Each of these operations may be taken from this number on, and they are all that still have to be.
pub record Fits (h : History) (p : ℕ) (slots : List Slot) (left : List Operation) : Type 0 where
  pub each : AllByRecursion
      (λ (y : Operation).
      IsOperationOf h y × ((p ≤ y.call) ⊎ (slice_index_or slots (y.process - 1) Free ≡ Open y))) left
  pub has : (y : Operation) (t : ℕ) → IsOperationOf h y → y.end ≡ Some t → p ≤ t →
      (slice_index_or slots (y.process - 1) Free ≡ Taken y) ⊎ Contains left y

-- The first slots are all free.
pub first_slots : (h : History) → SlotsAt h 0 (replicate h.shape.n Free)
first_slots h = record {
  count = length-replicate h.shape.n Free;
  live = λ y l. let lt : y.call < 0 = l.called in absurd (omega arith);
  opened = λ k y is. absurd (let none : Free ≡ Open y = sym (replicated Free h.shape.n k) ∙ is in cc);
  took = λ k y is. absurd (let none : Free ≡ Taken y = sym (replicated Free h.shape.n k) ∙ is in cc);
}

module _ (h : History) (sound : AreSound h) where
  -- Two processes with the same slot are one.
  pub same_place : (a b : Operation) → IsOperationOf h a → IsOperationOf h b → a.process - 1 ≡ b.process - 1 →
      a.process ≡ b.process
  same_place a b ha hb same =
      let x = sound.of_process a ha in let y = sound.of_process b hb in
      let x0 : 0 < a.process = x.0 in let y0 : 0 < b.process = y.0 in omega arith

  pub place_within : (o : Operation) (slots : List Slot) → IsOperationOf h o → length slots ≡ h.shape.n →
      o.process - 1 < length slots
  place_within o slots ho count =
      let x = sound.of_process o ho in
      let x0 : 0 < o.process = x.0 in let x1 : o.process ≤ h.shape.n = x.1 in omega (arith, count)

  pub stop_within : (p q i : ℕ) (slots : List Slot) → Stops h p q i → SlotsAt h p slots → i - 1 < length slots
  stop_within p q i slots x s =
      subst (λ j. j - 1 < length slots) x.process (place_within x.operation slots x.live.operation s.count)

  -- An operation that goes on does so after a step that is not its end.
  pub still : (p q : ℕ) (x : Step) (y : Operation) → Turned h p q x → Live h p y → (x ≡ Ends y.process → ⊥) → Live h q y
  still p q x y t l none =
      let later : p ≤ q = t.later in let called : y.call < p = l.called in
      record {
        operation = l.operation;
        called = omega arith;
        going = λ e is. elim (cases_lt e q) [
          | inl less ↦ absurd (none (t.ends y e l.operation is (l.going e is) less))
          | inr le ↦ le
        ];
      }

  -- An operation that goes on behind a step did so before it, unless the step is its call.
  pub was : (p q : ℕ) (x : Step) (y : Operation) → Turned h p q x → Live h q y → (x ≡ Calls y → ⊥) → Live h p y
  was p q x y t l none =
      let later : p ≤ q = t.later in
      record {
        operation = l.operation;
        called = elim (cases_lt y.call p) [
          | inl less ↦ less
          | inr le ↦ absurd (none (t.calls y l.operation le l.called))
        ];
        going = λ e is. let le : q ≤ e = l.going e is in omega arith;
      }

  -- An operation that begins at a step goes on behind it.
  pub begun : (p q : ℕ) (o : Operation) → Turned h p q (Calls o) → Live h q o
  begun p q o t =
      let b = t.begins o refl in
      let from : p ≤ o.call = b.from in
      record {
        operation = b.operation;
        called = b.before;
        going = λ e is. elim (cases_lt e q) [
          | inl less ↦ (let late : o.call < e = sound.ends_later o e b.operation is in
              let no : Calls o ≡ Ends o.process = t.ends o e b.operation is (omega arith) less in absurd (cc))
          | inr le ↦ le
        ];
      }

  -- Where one slot has changed, and tells which operation of its process goes on, the slots tell which ones do.
  set_slots : (p q j : ℕ) (s : Slot) (slots : List Slot) → j < length slots → SlotsAt h p slots →
      ((y : Operation) → Live h q y →
      ((y.process - 1 ≡ j) × ((s ≡ Open y) ⊎ (s ≡ Taken y))) ⊎ ((y.process - 1 ≡ j → ⊥) × Live h p y)) →
      ((y : Operation) → (s ≡ Open y) ⊎ (s ≡ Taken y) → Live h q y × (y.process - 1 ≡ j)) →
      ((y : Operation) → (y.process - 1 ≡ j → ⊥) → Live h p y → Live h q y) → SlotsAt h q (slice_set slots j s)
  set_slots p q j s slots lt at here put stays = record {
    count = length-set slots j s ∙ at.count;
    live = λ y l. elim (here y l) [
      | inl same ↦ elim same.1 [
        | inl is ↦ inl (set_same slots j (y.process - 1) s lt same.0 ∙ is)
        | inr is ↦ inr (set_same slots j (y.process - 1) s lt same.0 ∙ is)
      ]
      | inr other ↦ elim (at.live y other.1) [
        | inl is ↦ inl (set_other slots j (y.process - 1) s (Open y) other.0 is)
        | inr is ↦ inr (set_other slots j (y.process - 1) s (Taken y) other.0 is)
      ]
    ];
    opened = λ k y is. elim (set_cases slots j k s (Open y) lt is) [
      | inl same ↦ (let l = put y (inl same.1) in (l.0, l.1 ∙ sym same.0))
      | inr other ↦ (let l = at.opened k y other.1 in (stays y (λ e. other.0 (sym l.1 ∙ e)) l.0, l.1))
    ];
    took = λ k y is. elim (set_cases slots j k s (Taken y) lt is) [
      | inl same ↦ (let l = put y (inr same.1) in (l.0, l.1 ∙ sym same.0))
      | inr other ↦ (let l = at.took k y other.1 in (stays y (λ e. other.0 (sym l.1 ∙ e)) l.0, l.1))
    ];
  }

  -- No other operation of the process of one that goes on goes on.
  only_one : (p : ℕ) (slots : List Slot) (a b : Operation) → SlotsAt h p slots → Live h p a → Live h p b →
      a.process ≡ b.process → a ≡ b
  only_one p slots a b at la lb same =
      let place = ap (λ i. slice_index_or slots (i - 1) Free) same in
      elim (at.live a la) [
        | inl is ↦ elim (at.live b lb) [
          | inl is' ↦ cc
          | inr is' ↦ cc
        ]
        | inr is ↦ elim (at.live b lb) [
          | inl is' ↦ cc
          | inr is' ↦ cc
        ]
      ]

  -- Where an operation of the process ends, none of that process goes on behind it.
  gone : (p q i : ℕ) (slots : List Slot) (y : Operation) → Turned h p q (Ends i) → SlotsAt h p slots →
      Live h p y → Live h q y → y.process ≡ i → ⊥
  gone p q i slots y t at l l' same =
      let x = t.stops i refl in
      let e = only_one p slots x.operation y at x.live l (x.process ∙ sym same) in
      let end : y.end ≡ Some x.at = subst (λ (z : Operation). z.end ≡ Some x.at) e x.end in
      let le : q ≤ x.at = l'.going x.at end in
      let lt : x.at < q = x.before in omega arith

  -- The slots behind an event tell which operations go on there.
  pub pass_slots : (p q : ℕ) (x : Step) (slots : List Slot) → Turned h p q x → SlotsAt h p slots →
      SlotsAt h q (passed slots x)
  pass_slots p q (Calls o) slots t s =
      let b = t.begins o refl in
      set_slots p q (o.process - 1) (Open o) slots (place_within o slots b.operation s.count) s
      (λ y l. elim (cases_lt y.call p) [
        | inl less ↦ (let l' : Live h p y = was p q (Calls o) y t l (λ is. let e : o ≡ y = cc in
            let le : p ≤ o.call = b.from in
            let same : o.call ≡ y.call = ap (λ (z : Operation). z.call) e in omega arith) in
            inr (λ e. b.alone y l' (same_place y o l'.operation b.operation e), l'))
        | inr le ↦ (let e : Calls o ≡ Calls y = t.calls y l.operation le l.called in let same : o ≡ y = cc in
            inl (ap (λ (z : Operation). z.process - 1) (sym same), inl (ap Open same)))
      ])
      (λ y is. elim is [
        | inl e ↦ (let same : o ≡ y = cc in
            subst (λ (z : Operation). Live h q z × (z.process - 1 ≡ o.process - 1)) same (begun p q o t, refl))
        | inr e ↦ absurd cc
      ])
      (λ y apart l. still p q (Calls o) y t l (λ no. cc))
  pass_slots p q (Ends i) slots t s =
      let x = t.stops i refl in
      set_slots p q (i - 1) Free slots (stop_within p q i slots x s) s
      (λ y l'. let l : Live h p y = was p q (Ends i) y t l' (λ no. cc) in
      inr (
        λ e. gone p q i slots y t s l l'
            (same_place y x.operation l.operation x.live.operation (e ∙ ap (λ j. j - 1) (sym x.process)) ∙ x.process),
        l,
      ))
      (λ y is. absurd (elim is [
        | inl e ↦ cc
        | inr e ↦ cc
      ]))
      (λ y apart l. still p q (Ends i) y t l (λ no. let e : i ≡ y.process = cc in apart (ap (λ j. j - 1) (sym e))))
  pass_slots p q Waits slots t s = record {
    count = s.count;
    live = λ y l. s.live y (was p q Waits y t l (λ no. cc));
    opened = λ k y is. let w = s.opened k y is in (still p q Waits y t w.0 (λ no. cc), w.1);
    took = λ k y is. let w = s.took k y is in (still p q Waits y t w.0 (λ no. cc), w.1);
  }

  -- The slots once an open operation has been taken.
  pub take_slots : (p : ℕ) (o : Operation) (slots : List Slot) → SlotsAt h p slots →
      slice_index_or slots (o.process - 1) Free ≡ Open o → SlotsAt h p (slice_set slots (o.process - 1) (Taken o))
  take_slots p o slots s is =
      let l = s.opened (o.process - 1) o is in
      set_slots p p (o.process - 1) (Taken o) slots (place_within o slots l.0.operation s.count) s
      (λ y ly. elim (cases_eq (y.process - 1) (o.process - 1)) [
        | inl same ↦ inl (
          same,
          inr (ap Taken
              (only_one p slots o y s l.0 ly (same_place o y l.0.operation ly.operation (sym same)))),
        )
        | inr apart ↦ inr (apart, ly)
      ])
      (λ y now. elim now [
        | inl e ↦ absurd cc
        | inr e ↦ (let same : o ≡ y = cc in
            subst (λ (z : Operation). Live h p z × (z.process - 1 ≡ o.process - 1)) same (l.0, refl))
      ])
      (λ y apart ly. ly)
