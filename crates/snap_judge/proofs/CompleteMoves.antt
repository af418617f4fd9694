-- Operations that may be taken from some event on, are all, are in order in time, and are run by the object, are taken
-- by some moves.
use Rattle.std.proofs.Common.{◌≡◌, ℕ, ◌-◌, ◌<◌, List, [], ◌∷◌, refl, ap, subst, arith, inl, inr}
use Rattle.std.proofs.Common.{slice_index_or, slice_set}
use Rattle.std.specs.List.{Contains}
use Rattle.std.proofs.lemmas.Bool.{cases_lt}
use Rattle.snap_runs.specs.Operation.{Operation}
use Rattle.snap_runs.specs.Linearization.{RunsFrom, after}
use Rattle.snap_runs.proofs.Order.{Apart}
use Rattle.snap_judge.specs.History.{History}
use Rattle.snap_judge.specs.Steps.{Calls, Ends, Explains, Free, MayPass, Move, Open, Pass, Slot, Step, Take, Taken}
use Rattle.snap_judge.specs.Steps.{Waits, passed, taken}
use Rattle.snap_judge.proofs.ExplainedLists.{contains_cases, contains_none, each_contained}
use Rattle.snap_judge.proofs.ExplainedTurns.{same_place, Live, AreSound, Goes, IsOver, SlotsAt, Stops, Turned, pass_slots, take_slots}
use Rattle.snap_judge.proofs.ExplainedPasses.{fits_after_take, fits_behind}
use Rattle.snap_judge.proofs.SoundMoves.{Runs}

-- Some moves explain these steps, and take these operations.
abbrev pub AreTaken : List Step → List ℕ → List Slot → List Operation → Type 0
AreTaken xs values slots left = (moves : List Move) × Explains moves xs values slots × (taken moves ≡ left)

-- one more move
take_first : (o : Operation) (xs : List Step) (values : List ℕ) (slots : List Slot) (left : List Operation) →
    slice_index_or slots (o.process - 1) Free ≡ Open o → RunsFrom values (o ∷ left) →
    AreTaken xs (after values o.action) (slice_set slots (o.process - 1) (Taken o)) left →
    AreTaken xs values slots (o ∷ left)
take_first o xs values slots left is runs rest =
    (Take o ∷ rest.0, (is, runs.0, rest.1), ap (λ (os : List Operation). o ∷ os) rest.2)

pass_first : (x : Step) (xs : List Step) (values : List ℕ) (slots : List Slot) (left : List Operation) →
    MayPass slots x → AreTaken xs values (passed slots x) left → AreTaken (x ∷ xs) values slots left
pass_first x xs values slots left may rest = (Pass ∷ rest.0, (may, rest.1), rest.2)

module _ (h : History) (sound : AreSound h) where
  -- what is left once an operation has taken place
  taken_runs : (p : ℕ) (o : Operation) (values : List ℕ) (slots : List Slot) (left : List Operation) →
      SlotsAt h p slots → slice_index_or slots (o.process - 1) Free ≡ Open o → Runs h p slots values (o ∷ left) →
      Runs h p (slice_set slots (o.process - 1) (Taken o)) (after values o.action) left
  taken_runs p o values slots left s is r = record {
    fits = fits_after_take h sound p o slots left s is r.pairs.0 r.fits;
    pairs = r.pairs.1;
    runs = r.runs.1;
  }

  -- At the end all that is left is open.
  take_all : (left : List Operation) (p : ℕ) (values : List ℕ) (slots : List Slot) → IsOver h p → SlotsAt h p slots →
      Runs h p slots values left → AreTaken [] values slots left
  take_all [] p values slots over s r = ([], tt, refl)
  take_all (o ∷ left) p values slots over s r =
      let is : slice_index_or slots (o.process - 1) Free ≡ Open o = elim r.fits.each.0.1 [
        | inl le ↦ (let lt : o.call < p = over.called o r.fits.each.0.0 in absurd (omega arith))
        | inr now ↦ now
      ] in
      take_first o [] values slots left is r.runs
      (take_all left p (after values o.action) (slice_set slots (o.process - 1) (Taken o)) over
      (take_slots h sound p o slots s is) (taken_runs p o values slots left s is r))

  -- Before an end, what stands before the operation that ends is open, and so is that operation.
  is_open : (p q i : ℕ) (o : Operation) (values : List ℕ) (slots : List Slot) (left : List Operation)
      (t : Turned h p q (Ends i)) → SlotsAt h p slots → Runs h p slots values (o ∷ left) → (x : Stops h p q i) →
      Contains (o ∷ left) x.operation → slice_index_or slots (o.process - 1) Free ≡ Open o
  is_open p q i o values slots left t s r x has = elim r.fits.each.0.1 [
    | inr now ↦ now
    | inl le ↦ elim (cases_lt o.call q) [
      | inl lt ↦ absurd (let no : Ends i ≡ Calls o = t.calls o r.fits.each.0.0 le lt in cc)
      | inr more ↦ elim (contains_cases o x.operation left has) [
        | inl same ↦ (let before : x.operation.call < p = x.live.called in
            let one : o.call ≡ x.operation.call = ap (λ (z : Operation). z.call) same in absurd (omega arith))
        | inr later ↦ (let end : x.at < q = x.before in
            absurd ((each_contained (Apart o) x.operation left r.pairs.0 later).1 (x.at, x.end, omega arith)))
      ]
    ]
  ]

  -- Operations take place until the one that ends has done so.
  take_until : (left : List Operation) (p q i : ℕ) (xs : List Step) (values : List ℕ) (slots : List Slot) →
      Turned h p q (Ends i) →
      ((v : List ℕ) (ss : List Slot) (os : List Operation) → SlotsAt h p ss → Runs h p ss v os →
      MayPass ss (Ends i) → AreTaken (Ends i ∷ xs) v ss os) →
      SlotsAt h p slots → Runs h p slots values left → AreTaken (Ends i ∷ xs) values slots left
  take_until [] p q i xs values slots t then s r =
      let x = t.stops i refl in
      elim (r.fits.has x.operation x.at x.live.operation x.end (x.live.going x.at x.end)) [
        | inl held ↦ then values slots [] s r
            (x.operation, subst (λ j. slice_index_or slots (j - 1) Free ≡ Taken x.operation) x.process held)
        | inr has ↦ absurd (contains_none x.operation has)
      ]
  take_until (o ∷ left) p q i xs values slots t then s r =
      let x = t.stops i refl in
      elim (r.fits.has x.operation x.at x.live.operation x.end (x.live.going x.at x.end)) [
        | inl held ↦ then values slots (o ∷ left) s r
            (x.operation, subst (λ j. slice_index_or slots (j - 1) Free ≡ Taken x.operation) x.process held)
        | inr has ↦ (let is = is_open p q i o values slots left t s r x has in
            take_first o (Ends i ∷ xs) values slots left is r.runs
            (take_until left p q i xs (after values o.action) (slice_set slots (o.process - 1) (Taken o)) t then
            (take_slots h sound p o slots s is) (taken_runs p o values slots left s is r)))
      ]

  -- An event that may be passed is passed, and the rest is taken behind it.
  behind : (p q : ℕ) (x : Step) (xs : List Step) → Turned h p q x →
      ((v : List ℕ) (ss : List Slot) (os : List Operation) → SlotsAt h q ss → Runs h q ss v os → AreTaken xs v ss os) →
      (v : List ℕ) (ss : List Slot) (os : List Operation) → SlotsAt h p ss → Runs h p ss v os → MayPass ss x →
      AreTaken (x ∷ xs) v ss os
  behind p q x xs t rest v ss os s r may =
      pass_first x xs v ss os may
      (rest v (passed ss x) os (pass_slots h sound p q x ss t s)
      (record { fits = fits_behind h sound p q x ss os t s may r.fits; pairs = r.pairs; runs = r.runs }))

  -- A process that calls has nothing open.
  nothing_open : (p q : ℕ) (o : Operation) (slots : List Slot) → Turned h p q (Calls o) → SlotsAt h p slots →
      MayPass slots (Calls o)
  nothing_open p q o slots t s = by_slot (slice_index_or slots (o.process - 1) Free) refl
    where
      other : (y : Operation) → Live h p y × (y.process - 1 ≡ o.process - 1) → ⊥
      other y l =
          let b = t.begins o refl in
          b.alone y l.0 (same_place h sound y o l.0.operation b.operation l.1)

      by_slot : (s' : Slot) → slice_index_or slots (o.process - 1) Free ≡ s' →
          slice_index_or slots (o.process - 1) Free ≡ Free
      by_slot Free is = is
      by_slot (Open y) is = absurd (other y (s.opened (o.process - 1) y is))
      by_slot (Taken y) is = absurd (other y (s.took (o.process - 1) y is))

  pub complete_moves : (xs : List Step) (p : ℕ) → Goes h xs p → (values : List ℕ) (slots : List Slot)
      (left : List Operation) → SlotsAt h p slots → Runs h p slots values left → AreTaken xs values slots left
  complete_moves [] p g values slots left s r = take_all left p values slots g s r
  complete_moves (Calls o ∷ xs) p g values slots left s r =
      behind p g.0 (Calls o) xs g.1 (complete_moves xs g.0 g.2) values slots left s r
      (nothing_open p g.0 o slots g.1 s)
  complete_moves (Waits ∷ xs) p g values slots left s r =
      behind p g.0 Waits xs g.1 (complete_moves xs g.0 g.2) values slots left s r tt
  complete_moves (Ends i ∷ xs) p g values slots left s r =
      take_until left p g.0 i xs values slots g.1
      (behind p g.0 (Ends i) xs g.1 (complete_moves xs g.0 g.2)) s r
