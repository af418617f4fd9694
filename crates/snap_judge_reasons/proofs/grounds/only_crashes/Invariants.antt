-- `only_crashes` of snap_judge_reasons (src/grounds.rt): what its loop keeps.
use Rattle.std.proofs.Common.{◌≡◌, ℕ, ◌<◌, slice_index_or}
use Rattle.snap_semantics.specs.declared.event.Event.{Event}
use Rattle.snap_semantics.specs.declared.event.Happening.TheVariants as what
use Rattle.snap_judge_reasons.proofs.grounds.only_crashes.Given as goal

abbrev pub invariant-loop-event : goal.invariant-loop-event
invariant-loop-event l =
    (k : ℕ) (d : Event) → k < l.event-index → (slice_index_or l.events k d).process ≡ l.process →
    l.call < (slice_index_or l.events k d).item → (slice_index_or l.events k d).what ≡ what.Crash
