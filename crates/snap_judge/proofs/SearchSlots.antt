-- Slots by their places, counted from 0, and what passing an event does to them.
use Rattle.std.proofs.Common.{◌≡◌, ℕ, ◌-◌, ◌<◌, ◌≤◌, ◌⊎◌, inl, inr, List, length, get_or, refl, sym, ◌∙◌, ap}
use Rattle.std.proofs.Math.ListN.{set}
use Rattle.std.proofs.lemmas.Bool.{cases_eq, cases_lt}
use Rattle.std.proofs.lemmas.List.{get_or-set_same, get_or-set_other, get_or_past, set_past, set_comm}
use Rattle.snap_runs.specs.Operation.{Operation}
use Rattle.snap_judge.proofs.ExplainedLists.{set_tells, within_if}
use Rattle.snap_judge.specs.Steps.{Step, Calls, Ends, Waits, Slot, Free, Open, Taken, MayPass, passed}

-- the slot at a place
abbrev pub at : List Slot → ℕ → Slot
at slots p = get_or slots p Free

-- a slot is open with one operation
pub one_open : (s : Slot) (o o' : Operation) → s ≡ Open o → s ≡ Open o' → o ≡ o'
one_open s o o' e e' = cc

pub one_taken : (s : Slot) (o o' : Operation) → s ≡ Taken o → s ≡ Taken o' → o ≡ o'
one_taken s o o' e e' = cc

-- an open one is not taken, and not free
pub open_not_taken : (s : Slot) (o o' : Operation) → s ≡ Open o → s ≡ Taken o' → ⊥
open_not_taken s o o' e e' = cc

pub open_not_free : (s : Slot) (o : Operation) → s ≡ Open o → s ≡ Free → ⊥
open_not_free s o e e' = cc

pub taken_not_free : (s : Slot) (o : Operation) → s ≡ Taken o → s ≡ Free → ⊥
taken_not_free s o e e' = cc

-- what is not free is within the list
pub open_within : (S : List Slot) (p : ℕ) (o : Operation) → at S p ≡ Open o → p < length S
open_within S p o e = within_if Free S p (open_not_free (at S p) o e)

pub taken_within : (S : List Slot) (p : ℕ) (o : Operation) → at S p ≡ Taken o → p < length S
taken_within S p o e = within_if Free S p (taken_not_free (at S p) o e)

-- An event is of another place than p, or of this one.
abbrev pub Apart : Step → ℕ → Type 0
Apart (Calls o) p = p ≡ o.process - 1 → ⊥
Apart (Ends i) p = p ≡ i - 1 → ⊥
Apart Waits p = Unit {0}

abbrev pub IsThere : Step → ℕ → Type 0
IsThere (Calls o) p = p ≡ o.process - 1
IsThere (Ends i) p = p ≡ i - 1
IsThere Waits p = ⊥

swapped : {A B : Type 0} → A ⊎ B → B ⊎ A
swapped (inl a) = inr a
swapped (inr b) = inl b

pub place_of : (x : Step) (p : ℕ) → Apart x p ⊎ IsThere x p
place_of (Calls o) p = swapped (cases_eq p (o.process - 1))
place_of (Ends i) p = swapped (cases_eq p (i - 1))
place_of Waits p = inl tt

-- An event of another place passes a slot by.
pub passes_by : (x : Step) (S : List Slot) (p : ℕ) → Apart x p → at (passed S x) p ≡ at S p
passes_by (Calls o) S p apart = get_or-set_other S (o.process - 1) p (Open o) Free apart
passes_by (Ends i) S p apart = get_or-set_other S (i - 1) p Free Free apart
passes_by Waits S p apart = refl

pub turned : {p q : ℕ} → (p ≡ q → ⊥) → q ≡ p → ⊥
turned differ e = differ (sym e)

pub may_pass : (x : Step) (S : List Slot) (p : ℕ) (s : Slot) → Apart x p → MayPass S x → MayPass (set S p s) x
may_pass (Calls o) S p s apart may = get_or-set_other S p (o.process - 1) s Free (turned apart) ∙ may
may_pass (Ends i) S p s apart may =
    (may.0, get_or-set_other S p (i - 1) s Free (turned apart) ∙ may.1)
may_pass Waits S p s apart may = tt

pub passed_with : (x : Step) (S : List Slot) (p : ℕ) (s : Slot) → Apart x p →
    passed (set S p s) x ≡ set (passed S x) p s
passed_with (Calls o) S p s apart = set_comm S p (o.process - 1) s (Open o) apart
passed_with (Ends i) S p s apart = set_comm S p (i - 1) s Free apart
passed_with Waits S p s apart = refl

-- Nothing passes that is of an open slot.
pub nothing_passes : (x : Step) (S : List Slot) (p : ℕ) (o : Operation) → IsThere x p → at S p ≡ Open o →
    MayPass S x → ⊥
nothing_passes (Calls o') S p o there is may = open_not_free (at S p) o is (ap (at S) there ∙ may)
nothing_passes (Ends i) S p o there is may = open_not_taken (at S p) o may.0 is (ap (at S) there ∙ may.1)
nothing_passes Waits S p o there is may = there

-- What is open behind a taking was open before it.
pub still_open : (S : List Slot) (q p : ℕ) (o' o : Operation) → at (set S q (Taken o')) p ≡ Open o → at S p ≡ Open o
still_open S q p o' o e = elim (set_tells (λ (s : Slot). s ≡ Open o) Free S q p (Taken o') e) [
  | inl here ↦ absurd (let no : Taken o' ≡ Open o = here.1 in cc)
  | inr before ↦ before
]
