-- A search that passes a step goes on.
use Rattle.std.proofs.Common.{◌≡◌, ℕ, zero, suc, ◌-◌, ◌<◌, ◌≤◌, ◌⊎◌, inl, inr, List, [], ◌∷◌, ◌++◌, length, get_or}
use Rattle.std.proofs.Common.{refl, sym, ◌∙◌, ap, subst, arith, map, drop, drop-cons}
use Rattle.std.proofs.Math.ListN.{set}
use Rattle.std.proofs.lemmas.Bool.{cases_eq}
use Rattle.std.proofs.lemmas.List.{get_or-set_same, get_or-set_other, length-set, map-set, length-map, append-nil}
use Rattle.snap_runs.specs.Operation.{Operation}
use Rattle.snap_judge.specs.Steps.{Step, Calls, Ends, Waits, Slot, Free, Open, Taken, MayPass, passed}
use Rattle.snap_judge.specs.Steps.{Pass, Explains, taken}
use Rattle.snap_judge.specs.declared.config.Step.{Step as KeptStep}
use Rattle.snap_judge.specs.declared.config.Step.TheVariants as kept_step
use Rattle.snap_judge.specs.declared.config.Slot.{Slot as KeptSlot}
use Rattle.snap_judge.specs.declared.config.Slot.TheVariants as kept_slot
use Rattle.snap_judge.specs.declared.config.Config.{Config}
use Rattle.snap_judge.specs.Kept.{GoesOn, IsConfig, called_at, rest_of, slot_of, slots_of, steps_kept, step_of_kept}
use Rattle.snap_judge.specs.Kept.{IsCallOf, IsStuck, MayNotPass, called_by, operation_of, first, seen_as, TellsOf}
use Rattle.snap_judge.specs.declared.operation.Operation.{Operation as KeptOperation}
use Rattle.snap_judge.proofs.SearchSlots.{at, open_not_free, open_not_taken}
use Rattle.snap_judge.proofs.SearchPass.{IsClear, pass_now}
use Rattle.snap_judge.proofs.Goes.{slot_at, tells_after, was_open}
use Rattle.snap_judge.proofs.Leading.{leads_on, made, same_parts, taken_on}

-- the step at a place, as the definitions have it
pub step_at : (steps : List KeptStep) (t : ℕ) →
    get_or (steps_kept steps) t Waits ≡ step_of_kept (get_or steps t kept_step.Waits)
step_at [] zero = refl
step_at [] (suc t) = refl
step_at (s ∷ steps) zero = refl
step_at (s ∷ steps) (suc t) = step_at steps t

-- what is left of the steps, the next one by itself
pub rest_at : (steps : List KeptStep) (c : Config) → c.position < length steps →
    rest_of steps c
    ≡ step_of_kept (get_or steps c.position kept_step.Waits) ∷ drop (suc c.position) (steps_kept steps)
rest_at steps c lt =
    drop-cons (steps_kept steps) c.position Waits (rw (length-map steps step_of_kept) lt)
    ∙ ap (λ (y : Step). y ∷ drop (suc c.position) (steps_kept steps)) (step_at steps c.position)

-- What may pass is clear of what is open.
pub clear_if : (x : Step) (S : List Slot) → MayPass S x → IsClear x S
clear_if (Calls o) S may p o' is = λ here. open_not_free (at S p) o' is (ap (at S) here ∙ may)
clear_if (Ends i) S may p o' is = λ here. open_not_taken (at S p) o' may.0 is (ap (at S) here ∙ may.1)
clear_if Waits S may p o' is = tt

module _ (steps : List KeptStep) (order : List ℕ) (c c' : Config) (x : KeptStep) (lt : c.position < length steps)
    (next : get_or steps c.position kept_step.Waits ≡ x) (position : c'.position ≡ suc c.position)
    (values : c'.values.items ≡ c.values.items)
    (slots : slots_of steps c' ≡ passed (slots_of steps c) (step_of_kept x))
    (count : length c'.slots.items ≡ length c.slots.items)
    (may : MayPass (slots_of steps c) (step_of_kept x)) where
  rest : rest_of steps c ≡ step_of_kept x ∷ rest_of steps c'
  rest =
      rest_at steps c lt
      ∙ ap (λ (y : KeptStep). step_of_kept y ∷ drop (suc c.position) (steps_kept steps)) next
      ∙ ap (λ (n : ℕ). step_of_kept x ∷ drop n (steps_kept steps)) (sym position)

  seen_now : made (rest_of steps c') c.values.items (passed (slots_of steps c) (step_of_kept x)) ≡ seen_as steps c'
  seen_now = same_parts _ (seen_as steps c') refl (sym values) (sym slots)

  pub passes : IsConfig steps c' → GoesOn steps order c order c'
  passes fits = record {
    config = λ k. fits;
    reached = λ k r. (
      r.0 ++ Pass ∷ [],
      rw (ap length values, count)
          (leads_on r.0 (Pass ∷ []) (first (length c.slots.items) (length c.values.items) steps) (seen_as steps c)
          (seen_as steps c') r.1 (step_of_kept x, rest_of steps c', rest, may, seen_now)),
      taken_on r.0 (Pass ∷ []) ∙ append-nil (taken r.0) ∙ r.2,
    );
    grows = ([], sym (append-nil order));
    explained = λ k e.
        rw (slots, values) (pass_now e.0 (step_of_kept x) (rest_of steps c') c.values.items (slots_of steps c)
        (clear_if (step_of_kept x) (slots_of steps c) may)
        (subst (λ (xs : List Step). Explains e.0 xs c.values.items (slots_of steps c)) rest e.1));
  }

place_again : (place : ℕ) → suc place - 1 ≡ place
place_again place = omega arith

-- The end of what a process called passes.
module _ (steps : List KeptStep) (order : List ℕ) (c c' : Config) (place j : ℕ) (lt : c.position < length steps)
    (fits : IsConfig steps c)
    (next : get_or steps c.position kept_step.Waits ≡ kept_step.Ends (suc place))
    (position : c'.position ≡ suc c.position) (values : c'.values.items ≡ c.values.items)
    (slots : c'.slots.items ≡ set c.slots.items place kept_slot.Free)
    (held : get_or c.slots.items place kept_slot.Free ≡ kept_slot.Taken j) where
  ended_slots : slots_of steps c' ≡ passed (slots_of steps c) (Ends (suc place))
  ended_slots =
      ap (map (slot_of steps)) slots ∙ map-set (slot_of steps) c.slots.items place kept_slot.Free
      ∙ ap (λ (p : ℕ). set (slots_of steps c) p Free) (sym (place_again place))

  ended_config : IsConfig steps c'
  ended_config = record {
    within = subst (λ (n : ℕ). n ≤ length steps) (sym position) lt;
    placed = λ q k e. fits.placed q k (was_open c.slots.items place q k kept_slot.Free (λ no. cc)
        (ap (λ (l : List KeptSlot). get_or l q kept_slot.Free) (sym slots) ∙ e));
    tells = tells_after steps c place kept_slot.Free c'.slots.items fits slots (λ k no. absurd no);
  }

  pub end_passes : GoesOn steps order c order c'
  end_passes =
      passes steps order c c' (kept_step.Ends (suc place)) lt next position values ended_slots
      (ap length slots ∙ length-set c.slots.items place kept_slot.Free) (
        called_at steps j,
        ap (at (slots_of steps c)) (place_again place) ∙ slot_at steps c.slots.items place
            ∙ ap (slot_of steps) held,
      ) ended_config

-- The call of an operation passes.
module _ (steps : List KeptStep) (order : List ℕ) (c c' : Config) (place : ℕ) (lt : c.position < length steps)
    (within : place < length c.slots.items) (fits : IsConfig steps c) (is_call : IsCallOf steps c.position place)
    (position : c'.position ≡ suc c.position) (values : c'.values.items ≡ c.values.items)
    (slots : c'.slots.items ≡ set c.slots.items place (kept_slot.Open c.position))
    (free : get_or c.slots.items place kept_slot.Free ≡ kept_slot.Free) where
  abbrev o : KeptOperation
  o = is_call.0

  process : o.process - 1 ≡ place
  process = let e : o.process ≡ suc place = is_call.2 in omega arith

  called : called_at steps c.position ≡ operation_of o
  called = ap (λ (x : KeptStep). called_by (step_of_kept x)) is_call.1

  called_slots : slots_of steps c' ≡ passed (slots_of steps c) (Calls (operation_of o))
  called_slots =
      ap (map (slot_of steps)) slots ∙ map-set (slot_of steps) c.slots.items place (kept_slot.Open c.position)
      ∙ ap (λ (x : Operation). set (slots_of steps c) place (Open x)) called
      ∙ ap (λ (p : ℕ). set (slots_of steps c) p (Open (operation_of o))) (sym process)

  placed : (q k : ℕ) → (q ≡ place) ⊎ (q ≡ place → ⊥) →
      get_or (set c.slots.items place (kept_slot.Open c.position)) q kept_slot.Free ≡ kept_slot.Open k →
      ((called_at steps k).process ≡ suc q) × (k < length steps)
  placed q k (inl same) e =
      let both : kept_slot.Open c.position ≡ kept_slot.Open k =
      sym (get_or-set_same c.slots.items place (kept_slot.Open c.position) kept_slot.Free within)
      ∙ ap (λ (r : ℕ). get_or (set c.slots.items place (kept_slot.Open c.position)) r kept_slot.Free) (sym same) ∙ e in
      let here : c.position ≡ k = cc in
      subst (λ (m : ℕ). ((called_at steps m).process ≡ suc q) × (m < length steps)) here (
        let at_call : (called_at steps c.position).process ≡ o.process = ap (λ (x : Operation). x.process) called in
            at_call ∙ is_call.2 ∙ ap suc (sym same),
        lt,
      )
  placed q k (inr differ) e =
      fits.placed q k (sym (get_or-set_other c.slots.items place q (kept_slot.Open c.position) kept_slot.Free differ) ∙ e)

  called_config : IsConfig steps c'
  called_config = record {
    within = subst (λ (n : ℕ). n ≤ length steps) (sym position) lt;
    placed = λ q k e. placed q k (cases_eq q place) (ap (λ (l : List KeptSlot). get_or l q kept_slot.Free) (sym slots) ∙ e);
    tells = tells_after steps c place (kept_slot.Open c.position) c'.slots.items fits slots
        (λ k e. subst (λ (m : ℕ). IsCallOf steps m place) e is_call);
  }

  pub call_passes : GoesOn steps order c order c'
  call_passes =
      passes steps order c c' (kept_step.Calls o) lt is_call.1 position values called_slots
      (ap length slots ∙ length-set c.slots.items place (kept_slot.Open c.position))
      (ap (at (slots_of steps c)) process ∙ slot_at steps c.slots.items place ∙ ap (slot_of steps) free) called_config

pub end_stuck : (steps : List KeptStep) (c : Config) (place : ℕ) → c.position < length steps →
    get_or steps c.position kept_step.Waits ≡ kept_step.Ends (suc place) →
    ((j : ℕ) → get_or c.slots.items place kept_slot.Free ≡ kept_slot.Taken j → ⊥) → IsStuck steps c
end_stuck steps c place lt next never = (
  lt,
  subst (λ (x : KeptStep). MayNotPass (slots_of steps c) (step_of_kept x)) (sym next)
      (λ o held. kept_taken (get_or c.slots.items place kept_slot.Free) o refl
      (sym (slot_at steps c.slots.items place) ∙ ap (at (slots_of steps c)) (sym (place_again place)) ∙ held)),
)
  where
    kept_taken : (s : KeptSlot) (o : Operation) → get_or c.slots.items place kept_slot.Free ≡ s →
        slot_of steps s ≡ Taken o → ⊥
    kept_taken kept_slot.Free o is e = let no : Free ≡ Taken o = e in cc
    kept_taken (kept_slot.Open j) o is e = let no : Open (called_at steps j) ≡ Taken o = e in cc
    kept_taken (kept_slot.Taken j) o is e = never j is

-- A step that changes nothing passes.
pub wait_passes : (steps : List KeptStep) (order : List ℕ) (c c' : Config) → c.position < length steps →
    IsConfig steps c → get_or steps c.position kept_step.Waits ≡ kept_step.Waits → c'.position ≡ suc c.position →
    c'.values.items ≡ c.values.items → c'.slots.items ≡ c.slots.items → GoesOn steps order c order c'
wait_passes steps order c c' lt fits next position values slots =
    passes steps order c c' kept_step.Waits lt next position values (ap (map (slot_of steps)) slots) (ap length slots) tt
    (record {
      within = subst (λ (n : ℕ). n ≤ length steps) (sym position) lt;
      placed = λ q k e. fits.placed q k (ap (λ (l : List KeptSlot). get_or l q kept_slot.Free) (sym slots) ∙ e);
      tells = λ q k h. fits.tells q k (subst (λ (l : List KeptSlot). TellsOf (get_or l q kept_slot.Free) k) slots h);
    })
