-- What is judged of the history of a run is so of the run.
use Rattle.std.proofs.Common.{◌≡◌, ℕ, zero, suc, ◌-◌, ◌<◌, ◌≤◌, length, map, take, Some, refl, arith}
use Rattle.std.proofs.Common.{slice_index_or, ◌↔◌}
use Rattle.std.proofs.Math.Seq.{take-append_seam}
use Rattle.std.specs.Prelude.{slice_get}
use Rattle.std.proofs.lemmas.List.Elements.{Contains-get_or}
use Rattle.std.proofs.lemmas.Option.{slice_get-get_or}
use Rattle.snap_semantics.specs.IsListing.{IsListing}
use Rattle.snap_semantics.specs.declared.event.Event.{Event}
use Rattle.snap_semantics.specs.declared.event.Happening.TheVariants as what
use Rattle.snap_runs.specs.Linearization.{IsLinearizable}
use Rattle.snap_runs.specs.Run.{IsValidRun, Run, events_of}
use Rattle.snap_record.proofs.Events.{events_from}
use Rattle.snap_judge.specs.History.{History}
use Rattle.snap_judge.specs.Judgement.{FailsAt}
use Rattle.snap_judge.specs.Kept.{operation_of}
use Rattle.snap_judge.specs.Linearizable.{IsLinearizableHistory, LinearizableFromTheBeginning, event, up_to}
use Rattle.snap_judge.specs.declared.judgements.Failing.TheVariants as failing
use Rattle.snap_judge.specs.declared.judgements.Judgement.TheVariants as judgement
use Rattle.snap_run_judge.specs.RunHistory.{RunsHaveHistories, history_of}
use Rattle.snap_history_laws.specs.events.EventLaws.{EventsTellOperations}
use Rattle.snap_history_laws.specs.judgements.JudgementLaws.{FailingsAreOfRuns, FailsAtItem, JudgementsAreOfRuns}
use Rattle.snap_history_laws.specs.judgements.JudgementLaws.{run_up_to}
use Rattle.snap_history_laws.specs.judgements.RunLaws.{RunsAreToldByTheirHistories}
use Rattle.snap_history_laws.proofs.events.Telling.{split}
use Rattle.snap_history_laws.proofs.judgements.Cutting.{fits_up_to, history_up_to, place}
use Rattle.snap_history_laws.proofs.judgements.Matching.{some_item, within}

module _ (tell : EventsTellOperations) (have : RunsHaveHistories) (told : RunsAreToldByTheirHistories)
    (beginning : LinearizableFromTheBeginning) (r : Run) (listing : IsListing r.source) (fits : IsValidRun r) where
  abbrev h : History
  h = history_of r

  abbrev nobody : Event
  nobody = event 0 0 what.Done

  abbrev event_at : ℕ → Event
  event_at k = slice_index_or h.events k nobody

  -- where so many events stand up to an item, they are linearizable exactly if the run up to it is
  linearizable_up_to : (k t : ℕ) → t ≤ length r.items → length (events_of r t) ≡ k →
      IsLinearizable (run_up_to t r) ↔ IsLinearizableHistory (up_to k h)
  linearizable_up_to k t le is =
      let first : take k h.events ≡ events_of r t =
      rw (split r t le, ← is) (take-append_seam (events_of r t) (events_from r t)) in
      rw (first, ← history_up_to r t le) (told (run_up_to t r) (fits_up_to r t le fits)).linearizable

  at_item : (k n : ℕ) → k < length h.events → (event_at k).item ≡ n → FailsAt h (suc k) → FailsAtItem r n
  at_item k zero lt at f =
      absurd (let some = some_item tell r fits (event_at k) (Contains-get_or h.events k nobody lt) in omega arith)
  at_item k (suc t) lt at f =
      let last = (within tell r fits (event_at k) (Contains-get_or h.events k nobody lt)).1 in
      let counts = place r fits (have r listing fits).rising nobody k t (omega arith) lt at in
      let event_before : suc k - 1 ≡ k = omega arith in
      let item_before : suc t - 1 ≡ t = omega arith in
      record {
        is_item = (omega arith, omega arith);
        before = rw item_before ((linearizable_up_to k t (omega arith) counts.1).1 (rw event_before at f.before));
        fails = λ linear. f.fails ((linearizable_up_to (suc k) (suc t) (omega arith) counts.0).0 linear);
        whole = λ linear. f.fails (beginning h (suc k) (have r listing fits) ((told r fits).linearizable.0 linear));
      }

  fails_there : (k : ℕ) → FailsAt h k →
      (e : Event) × (slice_get (events_of r (length r.items)) (k - 1) ≡ Some e) × FailsAtItem r e.item
  fails_there zero f = absurd (omega (arith, f.is_event))
  fails_there (suc k) f =
      let lt : k < length h.events = omega (arith, f.is_event) in
      let here : suc k - 1 ≡ k = omega arith in
      (event_at k, rw here (slice_get-get_or h.events k nobody lt), at_item k (event_at k).item lt refl f)

pub failings_are_of_runs : EventsTellOperations → RunsHaveHistories → RunsAreToldByTheirHistories →
    LinearizableFromTheBeginning → FailingsAreOfRuns
failings_are_of_runs tell have told beginning most r failing.Nowhere listing fits is =
    (told r fits).linearizable.1 is
failings_are_of_runs tell have told beginning most r (failing.At k) listing fits is =
    fails_there tell have told beginning r listing fits k is
failings_are_of_runs tell have told beginning most r (failing.Undecided k) listing fits is = tt

pub judgements_are_of_runs : EventsTellOperations → RunsHaveHistories → RunsAreToldByTheirHistories →
    LinearizableFromTheBeginning → JudgementsAreOfRuns
judgements_are_of_runs tell have told beginning most r (judgement.Linearizable order) listing fits is =
    ((told r fits).linearizations (map operation_of order.items)).1 is
judgements_are_of_runs tell have told beginning most r (judgement.NotLinearizable k) listing fits is =
    failings_are_of_runs tell have told beginning most r (failing.At k) listing fits is
judgements_are_of_runs tell have told beginning most r (judgement.Undecided k) listing fits is = tt
