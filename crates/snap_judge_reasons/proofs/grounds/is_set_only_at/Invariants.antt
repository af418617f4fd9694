-- `is_set_only_at` of snap_judge_reasons (src/grounds.rt): what its loop keeps.
use Rattle.std.proofs.Common.{◌≡◌, ℕ, ◌<◌, slice_index_or}
use Rattle.snap_semantics.specs.declared.event.Event.{Event}
use Rattle.snap_semantics.specs.declared.event.Happening.TheVariants as what
use Rattle.snap_semantics.specs.declared.process.Op.TheVariants as op
use Rattle.snap_judge_reasons.proofs.grounds.is_set_only_at.Given as goal

abbrev pub invariant-loop-event : goal.invariant-loop-event
invariant-loop-event l =
    (k : ℕ) (d : Event) → k < l.event-index →
    (slice_index_or l.events k d).what ≡ what.Call (op.Update l.word l.value) →
    (slice_index_or l.events k d).item ≡ l.call
