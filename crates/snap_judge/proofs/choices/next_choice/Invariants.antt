-- `next_choice` of snap_judge (src/choices.rt): what its loop keeps.
use Rattle.std.proofs.Common.{◌≡◌, ◌<◌, ◌≤◌, ℕ, length}
use Rattle.snap_judge.specs.Choices.{NotNowAt}
use Rattle.snap_judge.proofs.choices.next_choice.Given as goal

abbrev pub invariant-loop-place : goal.invariant-loop-place
invariant-loop-place l = record {
  end : l.place-end ≡ length l.config.slots.items;
  from : l.from ≤ l.place;
  waiting : (q : ℕ) → l.from ≤ q → q < l.place → NotNowAt l.steps l.config l.ending q;
}
