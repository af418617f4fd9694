-- Where a value comes from that a scan sees: from the last update of the word before it, or from the beginning.
use Rattle.std.proofs.Common.{◌≡◌, ℕ, zero, suc, ◌-◌, ◌<◌, ◌≤◌, ◌⊎◌, List, [], ◌∷◌, length, refl, sym, arith}
use Rattle.std.proofs.Common.{inl, inr, ◌∙◌, slice_index_or}
use Rattle.std.proofs.lemmas.Bool.{cases_eq}
use Rattle.std.proofs.lemmas.Grind.{get_or-set_at}
use Rattle.std.proofs.lemmas.List.{get_or-set_other}
use Rattle.snap_runs.specs.Operation.{Action, Operation, Sees, Sets}
use Rattle.snap_runs.specs.Linearization.{Allows, RunsFrom, after}
use Rattle.snap_refutation.specs.Candidates.{Shows}

-- Operation o stands at place k of the list, counted from 0.
abbrev pub IsAt : List Operation → ℕ → Operation → Type 0
IsAt os k o = (k < length os) × (slice_index_or os k o ≡ o)

-- No operation from place k on and before place j sets the word.
abbrev pub Untouched : List Operation → (k j word : ℕ) → Type 0
Untouched os k j word =
    (i : ℕ) (o : Operation) (y : ℕ) → k ≤ i → i < j → IsAt os i o → o.action ≡ Sets word y → ⊥

-- The last operation before place j that sets the word sets it to x.
pub record LastSet (os : List Operation) (j word x : ℕ) : Type 0 where
  pub place : ℕ
  pub before : place < j
  pub setter : Operation
  pub at : IsAt os place setter
  pub sets : setter.action ≡ Sets word x
  pub last : Untouched os (suc place) j word

-- The value x of the word is the last one that it was set to before place j, or it is the one of the beginning.
abbrev pub Comes : List ℕ → List Operation → (j word x : ℕ) → Type 0
Comes values os j word x =
    LastSet os j word x ⊎ (Untouched os 0 j word × (slice_index_or values (word - 1) 0 ≡ x))

-- One more operation in front, which sets the word, or does not.
later : (o : Operation) (os : List Operation) (k j word : ℕ) → Untouched os k j word →
    Untouched (o ∷ os) (suc k) (suc j) word
later o os k j word rest zero a y low high stands sets = absurd (omega arith)
later o os k j word rest (suc i) a y low high stands sets =
    rest i a y (omega arith) (omega arith) (omega arith, stands.1) sets

never : (o : Operation) (os : List Operation) (j word : ℕ) →
    ((y : ℕ) → o.action ≡ Sets word y → ⊥) → Untouched os 0 j word → Untouched (o ∷ os) 0 (suc j) word
never o os j word not rest zero a y low high stands sets = not y (rw stands.1 sets)
never o os j word not rest (suc i) a y low high stands sets =
    later o os 0 j word rest (suc i) a y (omega arith) high stands sets

-- Before the others, the first operation.
before_others : (values : List ℕ) (o : Operation) (os : List Operation) (j word x : ℕ) (a : Action) → 0 < word →
    o.action ≡ a → Allows values a → Untouched os 0 j word → slice_index_or (after values a) (word - 1) 0 ≡ x →
    Comes values (o ∷ os) (suc j) word x
before_others values o os j word x (Sets w y) positive acts allows rest is = elim (cases_eq w word) [
  | inl same ↦
      (let value : y ≡ x = sym (get_or-set_at values (w - 1) (word - 1) y 0 (omega arith) (omega arith)) ∙ is in
      inl (record {
        place = 0;
        before = omega arith;
        setter = o;
        at = (omega arith, refl);
        sets = cc;
        last = later o os 0 j word rest;
      }))
  | inr other ↦ inr (
    never o os j word (λ z sets. other cc) rest,
    sym (get_or-set_other values (w - 1) (word - 1) y 0 (λ same. other (omega arith))) ∙ is,
  )
]
before_others values o os j word x (Sees view) positive acts allows rest is =
    inr (never o os j word (λ z sets. absurd cc) rest, is)

-- Where a scan at place j shows x in the word, x comes from the last update before it, or from the beginning.
pub comes : (values : List ℕ) (os : List Operation) (j : ℕ) (s : Operation) (view : List ℕ) (word x : ℕ) →
    RunsFrom values os → IsAt os j s → s.action ≡ Sees view → Shows view word x → Comes values os j word x
comes values [] j s view word x runs stands sees shows = absurd (omega arith)
comes values (o ∷ os) zero s view word x runs stands sees shows =
    let there : view ≡ values = rw (stands.1, sees) at runs.0 in
    inr (λ i a y low high. absurd (omega arith), rw there at shows.1)
comes values (o ∷ os) (suc j) s view word x runs stands sees shows =
    elim (comes (after values o.action) os j s view word x runs.1 (omega arith, stands.1) sees shows) [
      | inl last ↦ inl (record {
        place = suc last.place;
        before = omega arith;
        setter = last.setter;
        at = (omega arith, last.at.1);
        sets = last.sets;
        last = later o os (suc last.place) j word last.last;
      })
      | inr untouched ↦
          before_others values o os j word x o.action shows.0.0 refl runs.0 untouched.0 untouched.1
    ]
