-- `has_rival` of snap_judge (src/choices.rt): what its loop keeps.
use Rattle.std.proofs.Common.{◌≡◌, ◌<◌, ℕ, length, get_or}
use Rattle.snap_runs.specs.Operation.{Sets}
use Rattle.snap_judge.specs.Kept.{called_at}
use Rattle.snap_judge.specs.declared.config.Slot.TheVariants as kept_slot
use Rattle.snap_judge.proofs.choices.has_rival.Given as goal

abbrev pub invariant-loop-other : goal.invariant-loop-other
invariant-loop-other l = record {
  end : l.other-end ≡ length l.config.slots.items;
  alone : (q j value : ℕ) → q < l.other → get_or l.config.slots.items q kept_slot.Free ≡ kept_slot.Open j →
      (called_at l.steps j).action ≡ Sets l.word value → q ≡ l.place;
}
