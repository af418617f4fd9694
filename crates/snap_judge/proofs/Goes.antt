-- How a search goes on.
use Rattle.std.proofs.Common.{◌≡◌, ℕ, zero, suc, ◌-◌, ◌<◌, ◌≤◌, ◌⊎◌, inl, inr, List, [], ◌∷◌, ◌++◌, length, get_or}
use Rattle.std.proofs.Common.{refl, sym, ◌∙◌, ap, subst, arith, map, drop, append_assoc}
use Rattle.std.proofs.Math.ListN.{set}
use Rattle.std.proofs.lemmas.Bool.{cases_eq, cases_lt}
use Rattle.std.proofs.lemmas.List.{get_or-set_same, get_or-set_other, length-set, map-set, map-append, set_past, get_or_default, get_or_past, append-nil}
use Rattle.snap_runs.specs.Operation.{Action, Sets, Sees, Operation}
use Rattle.snap_runs.specs.Linearization.{Allows, after}
use Rattle.snap_judge.specs.Steps.{Open, Taken, Take, CanBeExplained}
use Rattle.snap_judge.specs.declared.config.Step.{Step as KeptStep}
use Rattle.snap_judge.specs.declared.config.Slot.{Slot as KeptSlot}
use Rattle.snap_judge.specs.declared.config.Slot.TheVariants as kept_slot
use Rattle.snap_judge.specs.declared.config.Config.{Config}
use Rattle.snap_judge.specs.Kept.{Can, GoesOn, Grows, IsConfig, IsReached, called_at, rest_of, slot_of, slots_of}
use Rattle.snap_judge.specs.Kept.{steps_kept, first, IsCallOf, seen_as, TellsOf, IsSameConfig}
use Rattle.snap_judge.proofs.ExplainedLists.{set_tells, within_if}
use Rattle.snap_judge.proofs.SearchSlots.{at}
use Rattle.snap_judge.proofs.SearchMoves.{scan_earlier}
use Rattle.snap_judge.proofs.Leading.{leads_on, made, same_parts, taken_on}

-- Operations are added to those that were added.
pub grown : (order order' order'' : List ℕ) → Grows order order' → Grows order' order'' → Grows order order''
grown order order' order'' g h =
    (g.0 ++ h.0, h.1 ∙ ap (λ (os : List ℕ). os ++ h.0) g.1 ∙ append_assoc order g.0 h.0)

pub goes_on : (steps : List KeptStep) (order order' order'' : List ℕ) (c c' c'' : Config) →
    GoesOn steps order c order' c' → GoesOn steps order' c' order'' c'' → GoesOn steps order c order'' c''
goes_on steps order order' order'' c c' c'' g h = record {
  config = λ k. h.config (g.config k);
  reached = λ k r. h.reached (g.config k) (g.reached k r);
  explained = λ k e. h.explained (g.config k) (g.explained k e);
  grows = grown order order' order'' g.grows h.grows;
}

-- what is read at a place within a list is there at any default
pub there : (slots : List KeptSlot) (p : ℕ) (s s' : KeptSlot) → p < length slots → s ≡ get_or slots p s → s ≡ s' →
    get_or slots p kept_slot.Free ≡ s'
there slots p s s' lt is same = get_or_default slots p kept_slot.Free s lt ∙ sym is ∙ same

-- the slot at a place, as the definitions have it
pub slot_at : (steps : List KeptStep) (slots : List KeptSlot) (p : ℕ) →
    at (map (slot_of steps) slots) p ≡ slot_of steps (get_or slots p kept_slot.Free)
slot_at steps [] zero = refl
slot_at steps [] (suc p) = refl
slot_at steps (s ∷ slots) zero = refl
slot_at steps (s ∷ slots) (suc p) = slot_at steps slots p

pub kept_not_free : (s : KeptSlot) (j : ℕ) → s ≡ kept_slot.Open j → s ≡ kept_slot.Free → ⊥
kept_not_free s j e e' = cc

-- What is open where a slot has changed to one that is not open was open before.
pub was_open : (slots : List KeptSlot) (p q j : ℕ) (s : KeptSlot) → (s ≡ kept_slot.Open j → ⊥) →
    get_or (set slots p s) q kept_slot.Free ≡ kept_slot.Open j → get_or slots q kept_slot.Free ≡ kept_slot.Open j
was_open slots p q j s shut e =
    elim (set_tells (λ (x : KeptSlot). x ≡ kept_slot.Open j) kept_slot.Free slots p q s e) [
      | inl here ↦ absurd (shut here.1)
      | inr before ↦ before
    ]

-- What a slot tells of where one has changed: that one tells it, or it was told before.
pub tells_after : (steps : List KeptStep) (c : Config) (p : ℕ) (s : KeptSlot) (slots : List KeptSlot) →
    IsConfig steps c → slots ≡ set c.slots.items p s → ((k : ℕ) → TellsOf s k → IsCallOf steps k p) →
    (q k : ℕ) → TellsOf (get_or slots q kept_slot.Free) k → IsCallOf steps k q
tells_after steps c p s slots fits is own q k h =
    elim (set_tells (λ (x : KeptSlot). TellsOf x k) kept_slot.Free c.slots.items p q s
    (subst (λ (l : List KeptSlot). TellsOf (get_or l q kept_slot.Free) k) is h)) [
      | inl here ↦ subst (IsCallOf steps k) (sym here.0) (own k here.1)
      | inr before ↦ fits.tells q k before
    ]

-- An operation at place p, of process suc p, has taken place, and left these values.
module _ (steps : List KeptStep) (order : List ℕ) (c c' : Config) (p j : ℕ)
    (position : c'.position ≡ c.position) (values : c'.values.items ≡ after c.values.items (called_at steps j).action)
    (slots : c'.slots.items ≡ set c.slots.items p (kept_slot.Taken j))
    (fits : IsConfig steps c) (is : get_or c.slots.items p kept_slot.Free ≡ kept_slot.Open j) where
  abbrev o : Operation
  o = called_at steps j

  place : o.process - 1 ≡ p
  place = let e = (fits.placed p j is).0 in omega (arith, e)

  pub slots_now : slots_of steps c' ≡ set (slots_of steps c) p (Taken o)
  slots_now = ap (map (slot_of steps)) slots ∙ map-set (slot_of steps) c.slots.items p (kept_slot.Taken j)

  pub open_now : at (slots_of steps c) p ≡ Open o
  open_now = slot_at steps c.slots.items p ∙ ap (slot_of steps) is

  pub rest_now : rest_of steps c' ≡ rest_of steps c
  rest_now = ap (λ (n : ℕ). drop n (steps_kept steps)) position

  seen_now : made (rest_of steps c) (after c.values.items o.action) (set (slots_of steps c) (o.process - 1) (Taken o))
      ≡ seen_as steps c'
  seen_now =
      same_parts _ (seen_as steps c') (sym rest_now) (sym values)
      (ap (λ (q : ℕ). set (slots_of steps c) q (Taken o)) place ∙ sym slots_now)

  same_counts : length c'.slots.items ≡ length c.slots.items
  same_counts = ap length slots ∙ length-set c.slots.items p (kept_slot.Taken j)

  width_after : (W : List ℕ) (a : Action) → length (after W a) ≡ length W
  width_after W (Sets word value) = length-set W (word - 1) value
  width_after W (Sees view) = refl

  same_width : length c'.values.items ≡ length c.values.items
  same_width = ap length values ∙ width_after c.values.items o.action

  pub took : Allows c.values.items o.action → IsReached steps order c → IsReached steps (order ++ j ∷ []) c'
  took allows r = (
    r.0 ++ Take o ∷ [],
    rw (same_width, same_counts)
        (leads_on r.0 (Take o ∷ []) (first (length c.slots.items) (length c.values.items) steps) (seen_as steps c)
        (seen_as steps c') r.1 (ap (at (slots_of steps c)) place ∙ open_now, allows, seen_now)),
    taken_on r.0 (Take o ∷ []) ∙ ap (λ (os : List Operation). os ++ o ∷ []) r.2
        ∙ sym (map-append (called_at steps) order (j ∷ [])),
  )

  pub still_config : IsConfig steps c'
  still_config = record {
    within = subst (λ (n : ℕ). n ≤ length steps) (sym position) fits.within;
    placed = λ q k e. fits.placed q k (was_open c.slots.items p q k (kept_slot.Taken j) (λ no. cc)
        (ap (λ (l : List KeptSlot). get_or l q kept_slot.Free) (sym slots) ∙ e));
    tells = tells_after steps c p (kept_slot.Taken j) c'.slots.items fits slots
        (λ k e. subst (λ (m : ℕ). IsCallOf steps m p) e
        (fits.tells p j (subst (λ (s : KeptSlot). TellsOf s j) (sym is) refl)));
  }

  -- what can be explained with it taken can be explained from there
  pub taken_can : CanBeExplained (rest_of steps c) (after c.values.items o.action) (set (slots_of steps c) p (Taken o)) →
      Can steps c'
  taken_can e = rw (rest_now, values, slots_now) e

  -- a scan that sees what is there
  pub scan_taken : (order' : List ℕ) → order' ≡ order ++ j ∷ [] → o.action ≡ Sees c.values.items →
      GoesOn steps order c order' c'
  scan_taken order' more sees = record {
    config = λ k. still_config;
    reached = λ k r. subst (λ (os : List ℕ). IsReached steps os c') (sym more)
        (took (subst (Allows c.values.items) (sym sees) refl) r);
    explained = λ k e. taken_can (subst (λ (W : List ℕ). CanBeExplained (rest_of steps c) W
        (set (slots_of steps c) p (Taken o))) (sym (ap (after c.values.items) sees))
        (scan_earlier p o (c.values.items, sees) (rest_of steps c) c.values.items (slots_of steps c) open_now e));
    grows = (j ∷ [], more);
  }

pub kept_taken_not_free : (j : ℕ) → kept_slot.Taken j ≡ kept_slot.Free → ⊥
kept_taken_not_free j e = cc

-- what is open is within the list
pub kept_open_within : (slots : List KeptSlot) (p j : ℕ) → get_or slots p kept_slot.Free ≡ kept_slot.Open j →
    p < length slots
kept_open_within slots p j is = within_if kept_slot.Free slots p (λ free. kept_not_free _ j is free)

-- A copy is as good.
pub same_goes : (steps : List KeptStep) (order : List ℕ) (c c' : Config) → IsSameConfig c c' → GoesOn steps order c order c'
same_goes steps order c c' same = record {
  config = λ k. record {
    within = subst (λ (n : ℕ). n ≤ length steps) (sym same.position) k.within;
    placed = λ p j e. k.placed p j (ap (λ (l : List KeptSlot). get_or l p kept_slot.Free) (sym same.slots) ∙ e);
    tells = λ p j h. k.tells p j (subst (λ (l : List KeptSlot). TellsOf (get_or l p kept_slot.Free) j) same.slots h);
  };
  reached = λ k r. (r.0, rw (same.position, same.values, same.slots) r.1, r.2);
  explained = λ k e. rw (same.position, same.values, same.slots) e;
  grows = ([], sym (append-nil order));
}

pub same_turned : (c c' : Config) → IsSameConfig c c' → IsSameConfig c' c
same_turned c c' same = record {
  position = sym same.position;
  values = sym same.values;
  slots = sym same.slots;
}
