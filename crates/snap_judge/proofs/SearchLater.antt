-- Before an end, only those updates need to take place that end there, or that something open needs: others can take
-- place behind it.
use Rattle.std.proofs.Common.{◌≡◌, ℕ, zero, suc, ◌-◌, ◌<◌, ◌⊎◌, inl, inr, List, [], ◌∷◌, length, get_or}
use Rattle.std.proofs.Common.{refl, sym, ◌∙◌, ap, subst, arith}
use Rattle.std.proofs.Math.ListN.{set}
use Rattle.std.proofs.lemmas.List.{get_or-set_same, get_or-set_other, length-set, set_comm}
use Rattle.snap_words.specs.Shape.{IsOneOf}
use Rattle.snap_runs.specs.Operation.{Action, Sets, Sees, Operation}
use Rattle.snap_runs.specs.Linearization.{Allows, after}
use Rattle.snap_judge.specs.Steps.{Step, Ends, Slot, Free, Open, Taken, MayPass, passed}
use Rattle.snap_judge.specs.Steps.{Move, Take, Pass, Explains, CanBeExplained}
use Rattle.snap_judge.proofs.SearchSlots.{at, open_not_taken, open_within, still_open, turned}
use Rattle.snap_judge.specs.Choices.{MayWait, NotNow, Scans, Updates}

-- how many operations take place before the next event
pub leading : List Move → ℕ
leading [] = 0
leading (Take o ∷ ms) = suc (leading ms)
leading (Pass ∷ ms) = 0

module _ (p : ℕ) (o : Operation) (word value : ℕ) (act : o.action ≡ Sets word value) (i : ℕ) (rest : List Step)
    (apart : p ≡ i - 1 → ⊥) where
  abbrev Later : ℕ → List ℕ → List Slot → Type 0
  Later n V S = (ms : List Move) × Explains ms (Ends i ∷ rest) V S × (leading ms ≡ n)

  abbrev Early : List Move → List ℕ → List Slot → Type 0
  Early ms V S = Explains ms (Ends i ∷ rest) (set V (word - 1) value) (set S p (Taken o))

  -- still so when another operation takes place
  waits_on : (q : ℕ) (o' : Operation) (V : List ℕ) (S : List Slot) → MayWait p word value V S →
      MayWait p word value (after V o'.action) (set S q (Taken o'))
  waits_on q o' V S h = record {
    is_word = subst (λ (n : ℕ). IsOneOf n word) (sym (length_after V o'.action)) h.is_word;
    alone = λ r o'' w v is a e. h.alone r o'' w v (still_open S q r o' o'' is) a e;
    unwanted = λ r s is w. h.unwanted r s (still_open S q r o' s is) w;
  }
    where
      length_after : (V : List ℕ) (a : Action) → length (after V a) ≡ length V
      length_after V (Sets w v) = length-set V (w - 1) v
      length_after V (Sees view) = refl

  -- the end is passed, and then the update takes place
  pass_first : (ms : List Move) (V : List ℕ) (S : List Slot) → at S p ≡ Open o → MayWait p word value V S →
      MayPass (set S p (Taken o)) (Ends i) →
      Explains ms rest (set V (word - 1) value) (passed (set S p (Taken o)) (Ends i)) → o.process - 1 ≡ p → Later 0 V S
  unfolding leading
  pass_first ms V S is h may e place = (
    Pass ∷ Take o ∷ ms,
    (
      (may.0, sym (get_or-set_other S p (i - 1) (Taken o) Free (turned apart)) ∙ may.1),
      (
        ap (at (set S (i - 1) Free)) place ∙ get_or-set_other S (i - 1) p Free Free apart ∙ is,
        subst (Allows V) (sym act) h.is_word,
        subst (λ (W : List ℕ). Explains ms rest W (set (set S (i - 1) Free) (o.process - 1) (Taken o)))
            (sym (ap (after V) act)) (rw place (rw (set_comm S p (i - 1) (Taken o) Free apart) at e)),
      ),
    ),
    refl,
  )

  take_first : (ms : List Move) (o' : Operation) (a : Action) (V : List ℕ) (S : List Slot) → at S p ≡ Open o →
      MayWait p word value V S → o'.action ≡ a → at (set S p (Taken o)) (o'.process - 1) ≡ Open o' →
      Allows (set V (word - 1) value) a →
      Explains ms (Ends i ∷ rest) (after (set V (word - 1) value) a)
      (set (set S p (Taken o)) (o'.process - 1) (Taken o')) →
      ((W : List ℕ) (T : List Slot) → at T p ≡ Open o → MayWait p word value W T → Early ms W T →
      Later (leading ms) W T) → Later (suc (leading ms)) V S
  unfolding leading
  take_first ms o' (Sees view) V S is h act' is' allows e next =
      absurd (h.unwanted (o'.process - 1) o' (still_open S p (o'.process - 1) o o' is') (
        view,
        act',
        ap (λ (W : List ℕ). get_or W (word - 1) 0) allows ∙ get_or-set_same V (word - 1) value 0 in_range,
      ))
    where
      in_range : word - 1 < length V
      in_range = let lo = h.is_word.0 in let hi = h.is_word.1 in omega arith
  take_first ms o' (Sets word' value') V S is h act' is' allows e next = (
    Take o' ∷ more.0,
    (
      was,
      subst (Allows V) (sym act') (subst (λ (n : ℕ). IsOneOf n word') (length-set V (word - 1) value) allows),
      subst (λ (W : List ℕ). Explains more.0 (Ends i ∷ rest) W (set S q (Taken o'))) (sym (ap (after V) act')) more.1,
    ),
    ap suc more.2,
  )
    where
      q : ℕ
      q = o'.process - 1

      was : at S q ≡ Open o'
      was = still_open S p q o o' is'

      not_here : q ≡ p → ⊥
      not_here same =
          open_not_taken (at (set S p (Taken o)) q) o' o is'
          (ap (at (set S p (Taken o))) same ∙ get_or-set_same S p (Taken o) Free (open_within S p o is))

      differ : word - 1 ≡ word' - 1 → ⊥
      differ same = not_here (h.alone q o' word' value' was act' (sym same))

      more : Later (leading ms) (set V (word' - 1) value') (set S q (Taken o'))
      more =
          next (set V (word' - 1) value') (set S q (Taken o'))
          (get_or-set_other S q p (Taken o') Free (turned not_here) ∙ is)
          (subst (λ (b : Action). MayWait p word value (after V b) (set S q (Taken o'))) act' (waits_on q o' V S h))
          (rw (
            set_comm V (word - 1) (word' - 1) value value' differ,
            set_comm S p q (Taken o) (Taken o')
                (turned not_here),
          ) at e)

  -- The update takes place behind the end, and one operation fewer before it.
  pub later : (ms : List Move) (V : List ℕ) (S : List Slot) → o.process - 1 ≡ p → at S p ≡ Open o →
      MayWait p word value V S → Early ms V S → Later (leading ms) V S
  unfolding leading
  later [] V S place is h e = absurd e
  later (Pass ∷ ms) V S place is h e = pass_first ms V S is h e.0 e.1 place
  later (Take o' ∷ ms) V S place is h e =
      take_first ms o' o'.action V S is h refl e.0 e.1 e.2 (λ W T is' h' e'. later ms W T place is' h' e')

-- After it has taken place, nothing explains what is left.
abbrev pub Fails : List Step → List ℕ → List Slot → ℕ → Operation → Type 0
Fails xs V S p o = CanBeExplained xs (after V o.action) (set S p (Taken o)) → ⊥

module _ (i : ℕ) (rest : List Step) where
  abbrev AllFail : List ℕ → List Slot → Type 0
  AllFail V S = (p : ℕ) (o : Operation) → at S p ≡ Open o → o.process - 1 ≡ p →
      Fails (Ends i ∷ rest) V S p o ⊎ NotNow i V S p o

  fails_at : (n : ℕ) (ms : List Move) (V : List ℕ) (S : List Slot) (o : Operation) → at S (o.process - 1) ≡ Open o →
      Allows V o.action → Explains ms (Ends i ∷ rest) (after V o.action) (set S (o.process - 1) (Taken o)) →
      leading ms ≡ n → Fails (Ends i ∷ rest) V S (o.process - 1) o ⊎ NotNow i V S (o.process - 1) o →
      ((ms' : List Move) → leading ms' ≡ n → Explains ms' (Ends i ∷ rest) V S → ⊥) → ⊥
  fails_at n ms V S o is allows e same (inl fails) next = fails (ms, e)
  fails_at n ms V S o is allows e same (inr (Scans view act other)) next = other (subst (Allows V) act allows)
  fails_at n ms V S o is allows e same (inr (Updates word value act apart waits)) next =
      let go = later (o.process - 1) o word value act i rest apart ms V S refl is waits
      (subst (λ (a : Action). Explains ms (Ends i ∷ rest) (after V a) (set S (o.process - 1) (Taken o))) act e) in
      next go.0 (go.2 ∙ same) go.1

  fails_by : (n : ℕ) (ms : List Move) (V : List ℕ) (S : List Slot) →
      ((o : Operation) → at S (i - 1) ≡ Taken o → ⊥) → AllFail V S → leading ms ≡ n →
      Explains ms (Ends i ∷ rest) V S → ⊥
  unfolding leading
  fails_by n [] V S never all same e = e
  fails_by n (Pass ∷ ms) V S never all same e = never e.0.0 e.0.1
  fails_by zero (Take o' ∷ ms) V S never all same e = let none : ⊥ = omega (arith, same) in none
  fails_by (suc n) (Take o' ∷ ms) V S never all same e =
      fails_at n ms V S o' e.0 e.1 e.2 (omega (arith, same)) (all (o'.process - 1) o' e.0 refl)
      (λ ms' less f. fails_by n ms' V S never all less f)

  -- Before an end of what has not taken place: if each operation that has to take place now fails, then nothing
  -- explains what is left.
  pub nothing_explains : (V : List ℕ) (S : List Slot) → ((o : Operation) → at S (i - 1) ≡ Taken o → ⊥) →
      AllFail V S → CanBeExplained (Ends i ∷ rest) V S → ⊥
  nothing_explains V S never all e = fails_by (leading e.0) e.0 V S never all refl e.1
