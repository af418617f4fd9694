-- `is_wanted` of snap_judge (src/choices.rt): what its loop keeps.
use Rattle.std.proofs.Common.{◌≡◌, ◌<◌, ◌-◌, ℕ, length, get_or}
use Rattle.snap_judge.specs.Kept.{called_at}
use Rattle.snap_judge.specs.Choices.{Wants}
use Rattle.snap_judge.specs.declared.config.Slot.TheVariants as kept_slot
use Rattle.snap_judge.proofs.choices.is_wanted.Given as goal

abbrev pub invariant-loop-place : goal.invariant-loop-place
invariant-loop-place l = record {
  end : l.place-end ≡ length l.config.slots.items;
  unwanted : (q j : ℕ) → q < l.place → get_or l.config.slots.items q kept_slot.Free ≡ kept_slot.Open j →
      Wants (l.word - 1) l.value (called_at l.steps j) → ⊥;
}
