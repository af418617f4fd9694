-- The events of the run up to an item are the first events of the run.
use Rattle.std.proofs.Common.{◌≡◌, ℕ, suc, ◌+◌, ◌-◌, ◌<◌, ◌≤◌, length, take, drop, slice_index_or, ap, arith}
use Rattle.std.proofs.Common.{length-append}
use Rattle.std.specs.List.{All, AllPairs}
use Rattle.std.proofs.lemmas.List.{get_or_append_left, length-take-le, take_all}
use Rattle.std.proofs.lemmas.List.Elements.{All-from_recursion, All-take, All-weaker, recursion_from_All}
use Rattle.std.proofs.Math.Seq.{get_or-append_right}
use Rattle.snap_words.specs.Shape.{IsOneOf}
use Rattle.snap_semantics.specs.Run.{events}
use Rattle.snap_semantics.specs.State.{initial}
use Rattle.snap_semantics.specs.Table.{who}
use Rattle.snap_semantics.specs.declared.event.Event.{Event}
use Rattle.snap_semantics.specs.declared.process.Item.{Item}
use Rattle.snap_runs.specs.Run.{IsValidRun, Run, events_of, state}
use Rattle.snap_record.proofs.Later.{events_after}
use Rattle.snap_record.specs.History.{IsWithin}
use Rattle.snap_record.proofs.Events.{all_events, all_within_run, events_from}
use Rattle.snap_judge.proofs.ExplainedNext.{Rises}
use Rattle.snap_run_judge.specs.RunHistory.{history_of}
use Rattle.snap_history_laws.specs.judgements.JudgementLaws.{run_up_to}
use Rattle.snap_history_laws.proofs.events.Telling.{split}

module _ (r : Run) (t : ℕ) (le : t ≤ length r.items) where
  -- the history of the run up to the item
  pub history_up_to : (history_of (run_up_to t r)).events ≡ events_of r t
  history_up_to =
      ap (events r.source r.shape (initial r.source r.shape) 1)
      (take_all (length (take t r.items)) (take t r.items) (omega arith))

  later : All (λ (e : Event). t < e.item) (events_from r t)
  later =
      All-from_recursion (λ (e : Event). t < e.item) (events_from r t)
      (events_after r.source r.shape (state r t) (suc t) (suc t) (drop t r.items) (omega arith))

  module _ (fits : IsValidRun r) where
    pub fits_up_to : IsValidRun (run_up_to t r)
    fits_up_to =
        let IsThere : Item → Type 0 = λ x. IsOneOf r.shape.n (who x) in
        record {
          all =
              recursion_from_All IsThere (take t r.items)
              (All-take IsThere t r.items (All-from_recursion IsThere r.items fits.all));
        }

    earlier : All (λ (e : Event). e.item ≤ t) (events_of r t)
    earlier =
        let front = run_up_to t r in
        let IsThere = IsWithin r.shape.n (length front.items) in
        rw (← history_up_to, all_events front)
        (All-weaker IsThere (λ (e : Event). e.item ≤ t)
        (λ e within. let count = length-take-le t r.items le in omega (arith, within.1)) (events_from front 0)
        (All-from_recursion IsThere (events_from front 0) (all_within_run front fits_up_to)))

-- Where numbers rise, of which the first m are at most t + 1 and the others above, and the first n at most t and the
-- others above, number t + 1 is the last of the m, and the first behind the n.
place_of : (at : ℕ → ℕ) (n m k t len : ℕ) → ((i j : ℕ) → i < j → j < len → at i < at j) →
    ((j : ℕ) → j < m → at j ≤ suc t) → ((j : ℕ) → m ≤ j → j < len → suc t < at j) →
    ((j : ℕ) → j < n → at j ≤ t) → ((j : ℕ) → n ≤ j → j < len → t < at j) →
    n ≤ len → m ≤ len → k < len → at k ≡ suc t → (m ≡ suc k) × (n ≡ k)
place_of at n m k t len rises early late first behind few many lt is = grind (arith, behind n, rises n k)

module _ (r : Run) (fits : IsValidRun r) (rises : AllPairs Rises (events_of r (length r.items))) (d : Event) where
  abbrev number : ℕ → ℕ
  number k = (slice_index_or (events_of r (length r.items)) k d).item

  -- how many events there are up to an item
  abbrev pub count : ℕ → ℕ
  count t = length (events_of r t)

  counts : (t : ℕ) → t ≤ length r.items → count (length r.items) ≡ count t + length (events_from r t)
  counts t le = rw (split r t le) (length-append (events_of r t) (events_from r t))

  early : (t j : ℕ) → t ≤ length r.items → j < count t →
      (slice_index_or (events_of r (length r.items)) j d).item ≤ t
  early t j le lt =
      rw (split r t le, get_or_append_left (events_of r t) (events_from r t) d j lt) (earlier r t le fits j d lt)

  late : (t j : ℕ) → t ≤ length r.items → count t ≤ j → j < count (length r.items) →
      t < (slice_index_or (events_of r (length r.items)) j d).item
  late t j le ge lt =
      let within : j - count t < length (events_from r t) = omega (arith, counts t le) in
      rw (split r t le, get_or-append_right (events_of r t) (events_from r t) j d ge)
      (later r t le (j - count t) d within)

  -- Event k, counted from 0, is the last up to its item, and the first behind the item before.
  pub place : (k t : ℕ) → suc t ≤ length r.items → k < count (length r.items) → number k ≡ suc t →
      (count (suc t) ≡ suc k) × (count t ≡ k)
  place k t le lt is =
      let low : t ≤ length r.items = omega arith in
      place_of number (count t) (count (suc t)) k t (count (length r.items)) (λ i j. rises i j d)
      (λ j. early (suc t) j le) (λ j. late (suc t) j le) (λ j. early t j low) (λ j. late t j low)
      (omega (arith, counts t low)) (omega (arith, counts (suc t) le)) lt is
