-- An event that may be passed is passed at once; and one that cannot be passed is never passed.
use Rattle.std.proofs.Common.{◌≡◌, ℕ, ◌-◌, inl, inr, List, [], ◌∷◌, sym, ◌∙◌, ap, subst}
use Rattle.std.proofs.Math.ListN.{set}
use Rattle.std.proofs.lemmas.Bool.{cases_eq}
use Rattle.std.proofs.lemmas.List.{get_or-set_same, get_or-set_other}
use Rattle.snap_runs.specs.Operation.{Operation}
use Rattle.snap_runs.specs.Linearization.{Allows, after}
use Rattle.snap_judge.specs.Steps.{Step, Calls, Slot, Free, Open, Taken, passed, slot}
use Rattle.snap_judge.specs.Steps.{Move, Take, Pass, Explains, CanBeExplained}
use Rattle.snap_judge.proofs.SearchSlots.{at, Apart, passes_by, passed_with, still_open, open_within, taken_not_free}

-- No operation that is open is of the process of this event.
abbrev pub IsClear : Step → List Slot → Type 0
IsClear x S = (p : ℕ) (o : Operation) → at S p ≡ Open o → Apart x p

take_behind : (x : Step) (xs : List Step) (V : List ℕ) (S : List Slot) (o : Operation) → Apart x (o.process - 1) →
    at S (o.process - 1) ≡ Open o → Allows V o.action →
    CanBeExplained xs (after V o.action) (passed (set S (o.process - 1) (Taken o)) x) →
    CanBeExplained xs V (passed S x)
take_behind x xs V S o apart is allows e = (
  Take o ∷ e.0,
  (
    passes_by x S (o.process - 1) apart ∙ is,
    allows,
    subst (λ (T : List Slot). Explains e.0 xs (after V o.action) T) (passed_with x S (o.process - 1) (Taken o) apart) e.1,
  ),
)

-- What can be explained can be explained with a clear event passed first.
pub pass_now : (ms : List Move) (x : Step) (xs : List Step) (V : List ℕ) (S : List Slot) → IsClear x S →
    Explains ms (x ∷ xs) V S → CanBeExplained xs V (passed S x)
pass_now [] x xs V S clear e = absurd e
pass_now (Pass ∷ ms) x xs V S clear e = (ms, e.1)
pass_now (Take o ∷ ms) x xs V S clear e =
    take_behind x xs V S o (clear (o.process - 1) o e.0) e.0 e.1
    (pass_now ms x xs (after V o.action) (set S (o.process - 1) (Taken o))
    (λ p o' is. clear p o' (still_open S (o.process - 1) p o o' is)) e.2)

-- A call of a process that has something open is never passed.
pub never_called : (ms : List Move) (o : Operation) (xs : List Step) (V : List ℕ) (S : List Slot) →
    (slot S o.process ≡ Free → ⊥) → Explains ms (Calls o ∷ xs) V S → ⊥
never_called [] o xs V S busy e = e
never_called (Pass ∷ ms) o xs V S busy e = busy e.0
never_called (Take o' ∷ ms) o xs V S busy e =
    let q = o'.process - 1 in
    never_called ms o xs (after V o'.action) (set S q (Taken o')) (λ free. elim (cases_eq (o.process - 1) q) [
      | inl here ↦ taken_not_free (at (set S q (Taken o')) (o.process - 1)) o' (ap (at (set S q (Taken o'))) here
          ∙ get_or-set_same S q (Taken o') Free (open_within S q o' e.0)) free
      | inr apart ↦ busy (sym (get_or-set_other S q (o.process - 1) (Taken o') Free apart) ∙ free)
    ]) e.2
