-- What a search may leave out.
use Rattle.std.proofs.Common.{◌≡◌, ℕ, ◌-◌, ◌⊎◌, inl, inr, List, [], ◌∷◌, sym, ◌∙◌, ap, subst}
use Rattle.std.proofs.Math.ListN.{set}
use Rattle.std.proofs.lemmas.Bool.{cases_eq}
use Rattle.std.proofs.lemmas.List.{get_or-set_other, set_comm}
use Rattle.snap_runs.specs.Operation.{Sees, Operation}
use Rattle.snap_runs.specs.Linearization.{Allows, after}
use Rattle.snap_judge.specs.Steps.{Step, Slot, Free, Open, Taken, MayPass, passed, slot, with_slot}
use Rattle.snap_judge.specs.Steps.{Move, Take, Pass, Explains, CanBeExplained}
use Rattle.snap_judge.proofs.SearchSlots.{at, one_open, Apart, IsThere, place_of}
use Rattle.snap_judge.proofs.SearchSlots.{passes_by, may_pass, passed_with, nothing_passes, turned}

-- The operation is a scan.
abbrev pub IsScan : Operation → Type 0
IsScan o = (view : List ℕ) × (o.action ≡ Sees view)

-- An operation that leaves no trace may as well have taken place already: what can be explained can be explained with
-- it taken. `Traceless` says when it leaves no trace, and is kept.
module _ (p : ℕ) (o : Operation) (Traceless : List Step → List ℕ → List Slot → Type 0)
    (keeps_taking : (xs : List Step) (V : List ℕ) (S : List Slot) (o' : Operation) → Traceless xs V S →
    Traceless xs (after V o'.action) (set S (o'.process - 1) (Taken o')))
    (keeps_passing : (x : Step) (xs : List Step) (V : List ℕ) (S : List Slot) → Traceless (x ∷ xs) V S →
    Traceless xs V (passed S x))
    (forgotten : (ms : List Move) (xs : List Step) (V : List ℕ) (S : List Slot) → Traceless xs V S →
    Explains ms xs (after V o.action) (set S p (Taken o)) → Explains ms xs V (set S p (Taken o))) where
  abbrev Earlier : List Step → List ℕ → List Slot → Type 0
  Earlier xs V S = CanBeExplained xs V (set S p (Taken o))

  passing : (ms : List Move) (x : Step) (xs : List Step) (V : List ℕ) (S : List Slot) → at S p ≡ Open o →
      Traceless (x ∷ xs) V S → Apart x p ⊎ IsThere x p → MayPass S x → Explains ms xs V (passed S x) →
      ((S' : List Slot) → at S' p ≡ Open o → Traceless xs V S' → Explains ms xs V S' → Earlier xs V S') →
      Earlier (x ∷ xs) V S
  passing ms x xs V S is no_trace (inl apart) may e next =
      let go = next (passed S x) (passes_by x S p apart ∙ is) (keeps_passing x xs V S no_trace) e in (
        Pass ∷ go.0,
        (
          may_pass x S p (Taken o) apart may,
          subst (λ (T : List Slot). Explains go.0 xs V T) (sym (passed_with x S p (Taken o) apart)) go.1,
        ),
      )
  passing ms x xs V S is no_trace (inr there) may e next = absurd (nothing_passes x S p o there is may)

  taking : (ms : List Move) (o' : Operation) (xs : List Step) (V : List ℕ) (S : List Slot) → at S p ≡ Open o →
      Traceless xs V S → (p ≡ o'.process - 1) ⊎ (p ≡ o'.process - 1 → ⊥) → slot S o'.process ≡ Open o' →
      Allows V o'.action → Explains ms xs (after V o'.action) (with_slot S o'.process (Taken o')) →
      ((W : List ℕ) (S' : List Slot) → at S' p ≡ Open o → Traceless xs W S' → Explains ms xs W S' → Earlier xs W S') →
      Earlier xs V S
  taking ms o' xs V S is no_trace (inl here) is' allows e next =
      let same : o' ≡ o = one_open (at S p) o' o (ap (at S) here ∙ is') is in (
        ms,
        forgotten ms xs V S no_trace
            (subst (λ (y : Operation). Explains ms xs (after V y.action) (set S p (Taken y))) same
            (subst (λ (q : ℕ). Explains ms xs (after V o'.action) (set S q (Taken o'))) (sym here) e)),
      )
  taking ms o' xs V S is no_trace (inr apart) is' allows e next =
      let q = o'.process - 1 in
      let go = next (after V o'.action) (set S q (Taken o'))
      (get_or-set_other S q p (Taken o') Free apart ∙ is) (keeps_taking xs V S o' no_trace) e in (
        Take o' ∷ go.0,
        (
          get_or-set_other S p q (Taken o) Free (turned apart) ∙ is',
          allows,
          subst (λ (T : List Slot). Explains go.0 xs (after V o'.action) T)
              (set_comm S q p (Taken o') (Taken o) (turned apart)) go.1,
        ),
      )

  pub earlier : (ms : List Move) (xs : List Step) (V : List ℕ) (S : List Slot) → at S p ≡ Open o →
      Traceless xs V S → Explains ms xs V S → Earlier xs V S
  earlier [] [] V S is no_trace e = ([], tt)
  earlier [] (x ∷ xs) V S is no_trace e = absurd e
  earlier (Pass ∷ ms) [] V S is no_trace e = absurd e
  earlier (Pass ∷ ms) (x ∷ xs) V S is no_trace e =
      passing ms x xs V S is no_trace (place_of x p) e.0 e.1 (λ T h k f. earlier ms xs V T h k f)
  earlier (Take o' ∷ ms) xs V S is no_trace e =
      taking ms o' xs V S is no_trace (cases_eq p (o'.process - 1)) e.0 e.1 e.2 (λ W T h k f. earlier ms xs W T h k f)

-- A scan changes nothing.
pub scan_earlier : (p : ℕ) (o : Operation) → IsScan o → (xs : List Step) (V : List ℕ) (S : List Slot) →
    at S p ≡ Open o → CanBeExplained xs V S → CanBeExplained xs V (set S p (Taken o))
scan_earlier p o scan xs V S is e =
    earlier p o (λ xs V S. Unit {0}) (λ xs V S o' h. tt) (λ x xs V S h. tt)
    (λ ms xs V S h f. subst (λ (W : List ℕ). Explains ms xs W (set S p (Taken o))) (ap (after V) scan.1) f)
    e.0 xs V S is tt e.1
